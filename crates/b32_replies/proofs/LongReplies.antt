-- What may be said of a line, by what it asks for.
use Rattle.std.specs.Str.{IsUtf8}
use Rattle.std.proofs.Common.{◌≡◌, ℕ, ◌≤◌, List, length, refl, sym, ap, subst, Option, Some, None, MatchOption, Result, Ok, Err}
use Rattle.line_program.specs.Added.{AddsAnyOrRefuses}
use Rattle.line_program.specs.Refused.{err}
use Rattle.line_program.proofs.Replied.{answer-reply, text-reply}
use Rattle.b32_replies.specs.LongRequest.{LongRequest, Short, line_request_of, long_request_of, or_long}
use Rattle.b32_replies.specs.Reply.{IsAnswer, IsLineAnswer, IsLongAnswer, IsLongOutcome, IsReply, line_limit}
use Rattle.b32_replies.specs.Request.{Request, request_of}

module _ (line : List ℕ) (short : length line ≤ line_limit) (u : IsUtf8 line) where
  pub short-reply : (request : Request) (said : List ℕ) → request_of line ≡ Some request → IsAnswer request said → IsReply line said
  short-reply request said is h =
      answer-reply line_limit line_request_of IsLineAnswer line short u (Short request) said (ap (λ (o : Option Request). or_long o (long_request_of line)) is) h

  -- of one that is no other command
  pub long-reply : (said : List ℕ) → request_of line ≡ None → IsLongOutcome line said → IsReply line said
  long-reply said is h =
      text-reply line_limit line_request_of IsLineAnswer line short said u
      (subst (λ (o : Option Request). MatchOption (or_long o (long_request_of line)) (said ≡ err 3) (λ r. IsLineAnswer r said)) (sym is) (cases (long_request_of line) h))
    where
      cases : (o : Option LongRequest) → MatchOption o (said ≡ err 3) (λ r. IsLongAnswer r said) → MatchOption (or_long None o) (said ≡ err 3) (λ r. IsLineAnswer r said)
      cases None k = k
      cases (Some r) k = k

pub long-outcome : (line : List ℕ) (request : LongRequest) (said : List ℕ) → long_request_of line ≡ Some request → IsLongAnswer request said → IsLongOutcome line said
long-outcome line request said is h = subst (λ (o : Option LongRequest). MatchOption o (said ≡ err 3) (λ r. IsLongAnswer r said)) (sym is) h

pub no_long-outcome : (line : List ℕ) → long_request_of line ≡ None → IsLongOutcome line (err 3)
no_long-outcome line is = subst (λ (o : Option LongRequest). MatchOption o (err 3 ≡ err 3) (λ r. IsLongAnswer r (err 3))) (sym is) refl

-- what is added, however long it is, may be said more widely, and so may a refusal
pub adds_any-wider : {E : Type 0} (Says Wider : List ℕ → Type 0) (number_of : E → ℕ) (result : Result (Unit {0}) E) (old new : List ℕ)
    → ((said : List ℕ) → Says said → Wider said) → AddsAnyOrRefuses Says number_of result old new → AddsAnyOrRefuses Wider number_of result old new
adds_any-wider Says Wider number_of (Ok _) old new more h = (h.0, more h.0 h.1, h.2)
adds_any-wider Says Wider number_of (Err e) old new more h = (more (err (number_of e)) h.0, h.1)
