-- What is found is each once, and all that is wanted.
use Rattle.std.proofs.Common.{◌≤◌, ℕ, zero, suc, List, [], ◌∷◌, arith, inl, inr, map, refl, subst, sym}
use Rattle.std.specs.List.{AllByRecursion}
use Rattle.std.proofs.lemmas.List.{map-append}
use Rattle.bech32_poly.specs.Distinct.{IsAmong, IsOnce}
use Rattle.bech32_bch.proofs.Places.{all_push, once-append}
use Rattle.bech32_hrp.specs.Hrp.{lowered}
use Rattle.bech32_suggest.specs.Suggestions.{IsAddressUnder}
use Rattle.bech32_typed.specs.Tries.{Try}
use Rattle.bech32_typed.specs.declared.fronts.Front.{Front}
use Rattle.bech32_typed.specs.declared.tries.Pass.{Pass}
use Rattle.bech32_typed.specs.declared.tries.Pass.TheVariants.{AsItLooks, Unread}
use Rattle.bech32_meant.specs.Added.{AddsAll, AddsFrame, AddsIf, AddsTry, Answer, IsFound, IsNearTry, IsInUseUnder, filled}
use Rattle.bech32_meant.specs.Meant.{AddsSlips, AreAnswers, AreFoundBySlips, IsMeantAddress, itself, tries_at}
use Rattle.bech32_meant.specs.Added.{front_for}
use Rattle.bech32_meant.proofs.Growing.{Grows, finds-all, finds-try, grows-all, grows-try}

module _ (hrp text : List ℕ) (fs : List Front) where
  -- answers, each once
  abbrev Answers : List Answer → Type 0
  Answers found = AllByRecursion (λ a. IsMeantAddress hrp text fs a.0) found × IsOnce (map (λ (a : Answer). a.0) found)

  abbrev Keeps : {X : Type 0} → (List Answer → X → List Answer → Type 0) → X → Type 0
  Keeps Adds x = (before after : List Answer) → Adds before x after → Answers before → Answers after

  keeps-all : {X : Type 0} (Adds : List Answer → X → List Answer → Type 0) (xs : List X) → ((x : X) → IsAmong x xs → Keeps Adds x) → (before after : List Answer)
      → AddsAll Adds before xs after → Answers before → Answers after
  keeps-all Adds [] keeps before after same q = subst Answers (sym same) q
  keeps-all Adds (x ∷ xs) keeps before after h q = keeps-all Adds xs (λ y m. keeps y (inr m)) h.0 after h.2 (keeps x (inl refl) before h.0 h.1 q)

  keeps-if : (P : List ℕ → Type 0) (slips : ℕ) (x : List ℕ) → (P x → IsMeantAddress hrp text fs x) → Keeps (AddsIf P slips) x
  keeps-if P slips x is before after (inl (new, same)) q =
      subst Answers (sym same) (
        all_push (λ (a : Answer). IsMeantAddress hrp text fs a.0) before (x, slips) q.0 (is new.0),
        subst IsOnce (sym (map-append (λ (a : Answer). a.0) before ((x, slips) ∷ [])))
            (once-append (map (λ (a : Answer). a.0) before) (x ∷ []) q.1 (tt, tt) (λ y m n. elim n [ inl e ↦ new.1 (subst (λ z. IsAmong z (map (λ (a : Answer). a.0) before)) e m) | inr z ↦ z ])),
      )
  keeps-if P slips x is before after (inr (old, same)) q = subst Answers (sym same) q

  wanted-answer : (x : List ℕ) → IsInUseUnder hrp x → IsMeantAddress hrp text fs x
  wanted-answer x w = (w.0, inl w.1)

  keeps-frame : (slips errors : ℕ) (frame : List ℕ) → Keeps (AddsFrame hrp slips errors) frame
  keeps-frame slips errors frame before after (inl (has, h)) q =
      let one = keeps-all (AddsIf (IsInUseUnder hrp) slips) (map (λ n. n.1) h.1.near) (λ x m. keeps-if (IsInUseUnder hrp) slips x (wanted-answer x)) before h.0 h.1.adds q in
      keeps-all (AddsIf (IsInUseUnder hrp) slips) (map (λ n. n.1) h.2.near) (λ x m. keeps-if (IsInUseUnder hrp) slips x (wanted-answer x)) h.0 after h.2.adds one
  keeps-frame slips errors frame before after (inr (none, same)) q = subst Answers (sym same) q

  keeps-try : (slips : ℕ) (t : Try) → Keeps (AddsTry hrp slips) t
  keeps-try slips t before after h q = keeps-all (AddsFrame hrp slips t.errors) (filled t.frame) (λ frame m. keeps-frame slips t.errors frame) before after h q

  keeps-slips : (slips : ℕ) → Keeps (AddsSlips hrp text fs) slips
  keeps-slips slips before after h q =
      keeps-all (AddsTry hrp slips) (tries_at Unread text fs slips) (λ t m. keeps-try slips t) h.0 after h.2
      (keeps-all (AddsTry hrp slips) (tries_at AsItLooks text fs slips) (λ t m. keeps-try slips t) before h.0 h.1 q)

  grows-slips : Grows (AddsSlips hrp text fs)
  grows-slips before after slips t h m =
      grows-all (AddsTry hrp slips) (grows-try hrp slips) h.0 after (tries_at Unread text fs slips) t h.2
      (grows-all (AddsTry hrp slips) (grows-try hrp slips) before h.0 (tries_at AsItLooks text fs slips) t h.1 m)

  finds-slips : (pass : Pass) (slips : ℕ) (t : Try) → IsAmong t (tries_at pass text fs slips) → (other : List ℕ) → IsNearTry hrp t other → IsInUseUnder hrp (lowered other)
      → (before after : List Answer) → AddsSlips hrp text fs before slips after → IsFound after (lowered other)
  finds-slips AsItLooks slips t m other near wanted before after h =
      grows-all (AddsTry hrp slips) (grows-try hrp slips) h.0 after (tries_at Unread text fs slips) (lowered other) h.2
      (finds-all (AddsTry hrp slips) (grows-try hrp slips) before h.0 (tries_at AsItLooks text fs slips) t (lowered other) (λ b a adds. finds-try hrp slips b a t other adds near wanted) m h.1)
  finds-slips Unread slips t m other near wanted before after h =
      finds-all (AddsTry hrp slips) (grows-try hrp slips) h.0 after (tries_at Unread text fs slips) t (lowered other) (λ b a adds. finds-try hrp slips b a t other adds near wanted) m h.2

  among-three : (slips : ℕ) → slips ≤ 2 → IsAmong slips (0 ∷ 1 ∷ 2 ∷ [])
  among-three zero few = inl refl
  among-three (suc zero) few = inr (inl refl)
  among-three (suc (suc zero)) few = inr (inr (inl refl))
  among-three (suc (suc (suc n))) few = absurd (omega (arith, few))

  pub answers : (found : List Answer) → AreFoundBySlips hrp text fs found → AreAnswers hrp text fs found
  answers found h =
      let exact = keeps-all (AddsIf (IsAddressUnder hrp) 0) (itself (front_for hrp) text fs) (λ x m. keeps-if (IsAddressUnder hrp) 0 x (λ is. (is, inr m))) [] h.exact h.adds_itself (tt, tt) in
      let q = keeps-all (AddsSlips hrp text fs) (0 ∷ 1 ∷ 2 ∷ []) (λ slips m. keeps-slips slips) h.exact found h.adds exact in
      record {
        each = q.0;
        once = q.1;
        all = λ pass slips few t m other near wanted.
            finds-all (AddsSlips hrp text fs) grows-slips h.exact found (0 ∷ 1 ∷ 2 ∷ []) slips (lowered other) (finds-slips pass slips t m other near wanted) (among-three slips few) h.adds;
      }
