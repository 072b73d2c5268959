-- Patterns of errors, and which of them explain a residue.
use Rattle.std.specs.Prelude.{◌≡◌, ◌≢◌, ℕ, suc, ◌+◌, ◌*◌, ◌<◌, ◌≤◌, cond, List, [], ◌∷◌, length}
use Rattle.std.specs.List.{AllByRecursion}
use Rattle.bech32_gf.specs.Field.{Ops}
use Rattle.bech32_poly.specs.Distinct.{IsOnce}
use Rattle.bech32_poly.specs.Pattern.{pattern_polynomial, value_of_pattern_at}
use Rattle.bech32_poly.specs.Polynomial.{IsSamePolynomial, add}
use Rattle.bech32_poly.specs.Remainder.{IsRemainder}
use Rattle.bech32_bch.specs.Erasures.{has}

-- the locations of a pattern
abbrev pub locations : {F : Type 0} → List (ℕ × F) → List ℕ
locations [] = []
locations (item ∷ rest) = item.0 ∷ locations rest

-- values, none of them zero, at different locations below the window
pub record IsPattern {F : Type 0} (field : Ops F) (window : ℕ) (errors : List (ℕ × F))
    : Type 0 where
  pub below : AllByRecursion (λ (item : ℕ × F). item.0 < window) errors
  pub values : AllByRecursion (λ (item : ℕ × F). item.1 ≢ field.zero) errors
  pub once : IsOnce (locations errors)

-- how many of a pattern's errors stand outside the erasures
abbrev pub errors_outside : {F : Type 0} → List ℕ → List (ℕ × F) → ℕ
errors_outside erasures [] = 0
errors_outside erasures (item ∷ rest) =
    cond (has erasures item.0) (errors_outside erasures rest) (suc (errors_outside erasures rest))

-- the remainder of the pattern's polynomial, by the generator with these lower coefficients, is the
-- residue
abbrev pub HasRemainder : {F : Type 0} → Ops F → List F → List F → List (ℕ × F) → Type 0
HasRemainder field generator residue errors =
    (remainder : List _) × IsRemainder field generator (pattern_polynomial field errors) remainder
    × IsSamePolynomial field remainder residue

-- the pattern has the residue as remainder, and twice its errors outside the erasures, with the
-- erasures, are at most the bound
pub record Solves {F : Type 0} (field : Ops F) (generator residue : List F)
    (erasures : List ℕ) (window bound : ℕ) (errors : List (ℕ × F))
    : Type 0 where
  pub pattern : IsPattern field window errors
  pub remainder : HasRemainder field generator residue errors
  pub few : 2 * errors_outside erasures errors + length erasures ≤ bound

-- two patterns have the same values
abbrev pub IsSamePattern : {F : Type 0} → Ops F → List (ℕ × F) → List (ℕ × F) → Type 0
IsSamePattern field one other = (location : ℕ)
    → value_of_pattern_at field one location ≡ value_of_pattern_at field other location

-- any other pattern with that remainder has more errors outside the erasures
abbrev pub IsAlone : {F : Type 0} → Ops F → List F → List F → List ℕ → ℕ → List (ℕ × F) → Type 0
IsAlone field generator residue erasures window errors =
    (other : List _) → IsPattern field window other → HasRemainder field generator residue other
    → (IsSamePattern field other errors → ⊥)
    → errors_outside erasures errors < errors_outside erasures other

-- to add the pattern to a polynomial that has the target plus the residue as remainder makes the
-- remainder the target
abbrev pub Mends : {F : Type 0} → Ops F → List F → List F → List F → List (ℕ × F) → Type 0
Mends field generator target residue errors =
    (text remainder : List _) → IsRemainder field generator text remainder
    → IsSamePolynomial field remainder (add field target residue)
    → IsRemainder field generator (add field text (pattern_polynomial field errors)) target
