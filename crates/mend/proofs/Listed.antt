-- What is answered where a list of texts was found.
use Rattle.std.proofs.Common.{◌≡◌, ◌<◌, ℕ, List, ◌++◌, Result, Ok, Err, IfErr, is_ok, if◌then◌else◌, sym, subst, arith}
use Rattle.line_program.specs.Added.{AddsOrSaysNumber}
use Rattle.line_program.specs.Refused.{err}

module _ (Found : Type 0) where
  pub answers-list : (Says : List ℕ → Type 0) (list old new : List ℕ) (r : Result (Unit {0}) ℕ)
      → new ≡ (if is_ok r then old ++ list else old) → IfErr r (λ number. (number ≡ 91) × Found)
      → Says list → (Found → Says (err 91)) → AddsOrSaysNumber Says r old new
  answers-list Says list old new (Ok t) added memory all lacking = (list, all, added)
  answers-list Says list old new (Err n) kept memory all lacking = (subst (λ (k : ℕ). Says (err k)) (sym memory.0) (lacking memory.1), kept)

  pub small-list : (r : Result (Unit {0}) ℕ) → IfErr r (λ number. (number ≡ 91) × Found) → IfErr r (λ number. number < 100)
  small-list (Ok t) memory = tt
  small-list (Err n) memory = omega (arith, memory.0)
