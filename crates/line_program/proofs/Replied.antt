-- What may be said of a line, by what may be said of a text.
use Rattle.std.specs.Prelude.{OnOk, MatchResult}
use Rattle.std.proofs.Common.{◌≡◌, ℕ, ◌+◌, ◌≤◌, List, [], ◌∷◌, ◌++◌, length, length-append, append_assoc, refl, ap, sym, subst, ◌∙◌, inl, inr, arith, Option, Some, None, MatchOption, Result, Ok, Err}
use Rattle.std.proofs.lemmas.Bool.{le-ltb, lt-ltb, false_from_ne_true}
use Rattle.std.proofs.lemmas.Str.{is_utf8-from_IsUtf8, IsUtf8-from_is_utf8}
use Rattle.std.specs.Str.{IsUtf8, is_utf8}
use Rattle.line_program.specs.Added.{Adds, AddsAnyOrRefuses, AddsOrRefuses, AddsOrSaysNumber}
use Rattle.line_program.specs.Refused.{err, refusal_in}
use Rattle.line_program.specs.Reply.{IsLineRefusal, IsOutcomeBy, IsReplyBy}

module _ {Request : Type 0} (limit : ℕ) (request_of : List ℕ → Option Request) (IsAnswer : Request → List ℕ → Type 0)
    (line : List ℕ) (short : length line ≤ limit) where
  -- of one that is not UTF-8
  pub bytes-reply : (IsUtf8 line → ⊥) → IsReplyBy limit request_of IsAnswer line (err 2)
  bytes-reply u = rw (le-ltb limit (length line) short, false_from_ne_true (is_utf8 line) (λ t. u (IsUtf8-from_is_utf8 line t))) refl

  -- of one that is a text
  pub text-reply : (said : List ℕ) → IsUtf8 line → IsOutcomeBy request_of IsAnswer line said → IsReplyBy limit request_of IsAnswer line said
  text-reply said u h = rw (le-ltb limit (length line) short, is_utf8-from_IsUtf8 line u) h

  -- of one that asks for nothing
  pub no_command-reply : IsUtf8 line → request_of line ≡ None → IsReplyBy limit request_of IsAnswer line (err 3)
  no_command-reply u is = text-reply (err 3) u (subst (λ (o : Option Request). MatchOption o (err 3 ≡ err 3) (λ request. IsAnswer request (err 3))) (sym is) refl)

  -- of one that asks for something
  pub answer-reply : IsUtf8 line → (request : Request) (said : List ℕ) → request_of line ≡ Some request → IsAnswer request said → IsReplyBy limit request_of IsAnswer line said
  answer-reply u request said is h = text-reply said u (subst (λ (o : Option Request). MatchOption o (said ≡ err 3) (λ request. IsAnswer request said)) (sym is) h)

-- of one that is refused before it is executed
pub refused-reply : {Request : Type 0} (limit : ℕ) (request_of : List ℕ → Option Request) (IsAnswer : Request → List ℕ → Type 0) (line : List ℕ) (number : ℕ)
    → IsLineRefusal limit line number
    → IsReplyBy limit request_of IsAnswer line (err number)
refused-reply limit request_of IsAnswer line number (inl h) = rw (lt-ltb limit (length line) h.0, h.1) refl
refused-reply limit request_of IsAnswer line number (inr h) = rw h.2 (bytes-reply limit request_of IsAnswer line h.0 h.1)

-- what is added may be said more widely
pub Adds-weaker : (Says Wider : List ℕ → Type 0) (old new : List ℕ) → ((said : List ℕ) → Says said → Wider said) → Adds Says old new → Adds Wider old new
Adds-weaker Says Wider old new more h = record { said = h.said; says = more h.said h.says; size = h.size; added = h.added }

-- and so may a refusal
pub adds_or_refuses-weaker : {E : Type 0} (Says Wider : List ℕ → Type 0) (number_of : E → ℕ) (result : Result (Unit {0}) E) (old new : List ℕ)
    → ((said : List ℕ) → Says said → Wider said) → AddsOrRefuses Says number_of result old new → AddsOrRefuses Wider number_of result old new
adds_or_refuses-weaker Says Wider number_of (Ok _) old new more h = Adds-weaker Says Wider old new more h
adds_or_refuses-weaker Says Wider number_of (Err e) old new more h = (more (err (number_of e)) h.0, h.1)

module _ {E : Type 0} (Says : List ℕ → Type 0) (number_of : E → ℕ) where
  -- what is added with its size is added
  pub any-from_adds : (r : Result (Unit {0}) E) (old new : List ℕ) → AddsOrRefuses Says number_of r old new → AddsAnyOrRefuses Says number_of r old new
  any-from_adds (Ok _) old new h = (h.said, h.says, h.added)
  any-from_adds (Err e) old new h = h

  -- and leaves room for a newline
  pub room-from_adds : (r : Result (Unit {0}) E) (old new : List ℕ) (n m before after : ℕ) → n ≡ length old → m ≡ length new → n + 2048 ≤ before → before ≤ after → AddsOrRefuses Says number_of r old new
      → OnOk r (m + 1 ≤ after)
  room-from_adds (Ok _) old new n m before after is also room more h = omega (arith, is, also, room, more, ap (λ (l : List ℕ). length l) h.added, length-append old h.said, h.size)
  room-from_adds (Err e) old new n m before after is also room more h = tt

module _ (Says : List ℕ → Type 0) where
  -- there is room for what ends a reply
  pub room-to_end : (r : Result (Unit {0}) ℕ) (old new : List ℕ) (n m before after : ℕ) → n ≡ length old → m ≡ length new → n + 2048 ≤ before → before ≤ after → OnOk r (m + 1 ≤ after) → AddsOrSaysNumber Says r old new
      → MatchResult r (λ _. m + 1 ≤ after) (λ _. m + 7 ≤ after)
  room-to_end (Ok _) old new n m before after is also room more there h = there
  room-to_end (Err number) old new n m before after is also room more there h = omega (arith, is, also, room, more, ap (λ (l : List ℕ). length l) h.1)

  -- the reply with what ends it
  pub ended-reply : (r : Result (Unit {0}) ℕ) (old new ended : List ℕ) → AddsOrSaysNumber Says r old new → ended ≡ new ++ (refusal_in r ++ 10 ∷ [])
      → (said : List ℕ) × Says said × (ended ≡ old ++ (said ++ 10 ∷ []))
  ended-reply (Ok _) old new ended h e = (h.0, h.1, e ∙ ap (λ (t : List ℕ). t ++ 10 ∷ []) h.2 ∙ append_assoc old h.0 (10 ∷ []))
  ended-reply (Err number) old new ended h e = (err number, h.0, e ∙ ap (λ (t : List ℕ). t ++ (err number ++ 10 ∷ [])) h.1)
