-- The remainder of a polynomial by a monic one, which is given by its lower coefficients.
use Rattle.std.specs.Prelude.{◌≡◌, List, [], ◌∷◌, ◌++◌, length}
use Rattle.bech32_gf.specs.Field.{Ops}
use Rattle.bech32_poly.specs.Polynomial.{IsSamePolynomial, add, multiply}

-- the monic polynomial with these lower coefficients
abbrev pub monic : {F : Type 0} → Ops F → List F → List F
monic o low = low ++ (o.one ∷ [])

-- p is some quotient times the monic polynomial, plus r, which has a coefficient for
-- each place below the degree
pub record IsRemainder {F : Type 0} (o : Ops F) (low p r : List F) : Type 0 where
  pub quotient : List F
  pub divides : IsSamePolynomial o p (add o (multiply o quotient (monic o low)) r)
  pub short : length r ≡ length low
