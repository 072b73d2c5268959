-- Locations that are given as erasures, and what answers then.
use Rattle.std.specs.List.{AllByRecursion}
use Rattle.std.specs.Prelude.{IfOk, MatchOption}
use Rattle.std.proofs.Common.{◌≡◌, ◌<◌, ◌≤◌, ℕ, List, [], ◌∷◌, length, refl, Option, None, Some, Result, Ok, Err, subst, sym, ap, ◌∙◌, arith}
use Rattle.bech32_gf.specs.declared.gf32.Fe32.{Fe32}
use Rattle.bech32_checksum.specs.Code.{Code}
use Rattle.bech32_bch.specs.Erasures.{AreErasures, with_erasures}
use Rattle.bech32_lookup.specs.Question.{IsAnswerTo, Question}
use Rattle.bech32_lookup.proofs.Added.{erasures_more}
use Rattle.bech32_correction.specs.Given.{AreWithin, IsAnswerWith, search_end, up_to, with_given}
use Rattle.bech32_correction.proofs.Different.{erasures_are}

-- the different ones, where all are below the window
pub bounded : {E : Type 0} (window most : ℕ) (given : List ℕ) (r : Result (Option (List ℕ)) E) → AllByRecursion (λ i. i < window) given
    → IfOk r (λ answer. MatchOption answer (most < length (with_erasures [] given)) (λ s. (s ≡ with_erasures [] given) × (length s ≤ most)))
    → IfOk r (λ answer. MatchOption answer (AreWithin window most given → ⊥)
    (λ s. AreWithin window most given × AreErasures window s × (s ≡ with_erasures [] given)))
bounded window most given (Ok (Some s)) inside (is, few) = (
  (inside, subst (λ (t : List ℕ). length t ≤ most) is few),
  subst (λ (t : List ℕ). AreErasures window t) (sym is) (erasures_more window [] given (record { once = tt; below = tt }) inside),
  is,
)
bounded window most given (Ok None) inside more = λ within. let few = within.1 in omega (arith, few, more)
bounded window most given (Err e) inside h = tt

-- no locations are all below the window, within any bound, and none of them stands twice
pub none_distinct : (window most : ℕ) (given s : List ℕ) → given ≡ [] → s ≡ [] → AreWithin window most given × AreErasures window s × (s ≡ with_erasures [] given)
none_distinct window most [] [] none is = ((tt, omega arith), record { once = tt; below = tt }, refl)
none_distinct window most (i ∷ given) s none is = absurd (cc none)
none_distinct window most [] (i ∷ s) none is = absurd (cc is)

-- where they are not within the bound, nothing explains the residue
pub none_with : (code : Code) (bound : ℕ) (q : Question) (given : List ℕ) → (AreWithin q.window bound given → ⊥) → IsAnswerWith code bound q given None
none_with code bound q given not inside e explains =
    let few = explains.few in
    not (inside, omega (arith, few))

pub some_with : {E : Type 0} (code : Code) (bound : ℕ) (q : Question) (given : List ℕ) (r : Result (Option (List (ℕ × Fe32))) E) → AreWithin q.window bound given
    → IfOk r (λ answer. IsAnswerTo code bound (with_given q given) answer) → IfOk r (λ answer. IsAnswerWith code bound q given answer)
some_with code bound q given (Ok (Some listing)) within only = (within.0, only)
some_with code bound q given (Ok None) within none = λ inside. none
some_with code bound q given (Err e) within h = tt

-- a question of no location above one is that of a window which ends there
pub searched : (residue : List Fe32) (window : ℕ) (erasures : List ℕ) (highest : Option ℕ)
    → record { residue = residue; window = search_end highest window; erasures = erasures } ≡ up_to (record { residue = residue; window = window; erasures = erasures }) highest
searched residue window erasures None = refl
searched residue window erasures (Some highest) = refl

-- what answers a question with its own erasures answers the question
pub own : {E : Type 0} (code : Code) (bound : ℕ) (q : Question) (given : List ℕ) (r : Result (Option (List (ℕ × Fe32))) E) → given ≡ q.erasures → AreErasures q.window q.erasures
    → IfOk r (λ answer. IsAnswerWith code bound q given answer) → IfOk r (λ answer. IsAnswerTo code bound q answer)
own {E} code bound q given r is erased h = said r h
  where
    same : with_erasures [] given ≡ q.erasures
    same = ap (with_erasures []) is ∙ erasures_are q.erasures erased.once

    inside : AllByRecursion (λ i. i < q.window) given
    inside = subst (λ (s : List ℕ). AllByRecursion (λ i. i < q.window) s) (sym is) erased.below

    moved : (answer : Option (List (ℕ × Fe32))) → IsAnswerTo code bound (with_given q given) answer → IsAnswerTo code bound q answer
    moved answer k = subst (λ (s : List ℕ). IsAnswerTo code bound (record { residue = q.residue; window = q.window; erasures = s }) answer) same k

    said : (r : Result (Option (List (ℕ × Fe32))) E) → IfOk r (λ answer. IsAnswerWith code bound q given answer) → IfOk r (λ answer. IsAnswerTo code bound q answer)
    said (Ok None) h = moved None (h inside)
    said (Ok (Some listing)) h = moved (Some listing) h.1
    said (Err e) h = tt
