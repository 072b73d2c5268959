-- Division by a monic polynomial, which is given by its lower coefficients.
use Rattle.std.specs.Prelude.{ℕ, List, [], ◌∷◌, length, replicate}
use Rattle.bech32_gf.specs.Field.{Ops}
use Rattle.bech32_poly.specs.Polynomial.{add, scale}

-- n zeros
abbrev pub zeros : {F : Type 0} → Ops F → ℕ → List F
zeros o n = replicate n o.zero

-- the highest coefficient of a + x r
abbrev pub top : {F : Type 0} → F → List F → F
top a [] = a
top a (b ∷ r) = top b r

-- a + x r without its highest coefficient
abbrev pub push : {F : Type 0} → F → List F → List F
push a [] = []
push a (b ∷ r) = a ∷ push b r

-- the remainder of a + x r, where r is one: what its highest coefficient has of the
-- monic polynomial is taken off
abbrev pub step : {F : Type 0} → Ops F → List F → List F → F → List F
step o low r a = add o (push a r) (scale o (o.neg (top a r)) low)

-- the remainder of a polynomial; that it is the one of which `IsRemainder` speaks is proved
abbrev pub remainder_of : {F : Type 0} → Ops F → List F → List F → List F
remainder_of o low [] = zeros o (length low)
remainder_of o low (a ∷ p) = step o low (remainder_of o low p) a
