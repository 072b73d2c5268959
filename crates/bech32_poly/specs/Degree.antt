-- The degree of a polynomial.
use Rattle.std.specs.Prelude.{◌≡◌, ◌≢◌, ◌<◌, ◌-◌, ℕ, List, length}
use Rattle.bech32_gf.specs.Field.{Ops}
use Rattle.bech32_poly.specs.Polynomial.{coefficient}

-- d is the highest place of a coefficient that is not zero, or 0 where there is none
pub record IsDegree {F : Type 0} (o : Ops F) (p : List F) (d : ℕ) : Type 0 where
  pub above : (n : ℕ) → d < n → coefficient o p n ≡ o.zero
  pub leads : 0 < d → coefficient o p d ≢ o.zero

-- there is no coefficient, or the last one is not zero
abbrev pub HasNoZeroAbove : {F : Type 0} → Ops F → List F → Type 0
HasNoZeroAbove o p = 0 < length p → coefficient o p (length p - 1) ≢ o.zero
