-- A residue without one error.
use Rattle.std.specs.Prelude.{◌≡◌, ℕ, List, [], ◌∷◌}
use Rattle.bech32_gf.specs.Field.{Ops}
use Rattle.bech32_poly.specs.Pattern.{pattern_polynomial}
use Rattle.bech32_poly.specs.Polynomial.{coefficient}
use Rattle.bech32_poly.specs.Remainder.{IsRemainder}

-- the residue less the remainder of one error
pub record IsTakenOff {F : Type 0} (field : Ops F) (generator residue : List F) (error : ℕ × F)
    (rest : List F)
    : Type 0 where
  pub left : List F
  pub is_left : IsRemainder field generator (pattern_polynomial field (error ∷ [])) left
  pub is_rest : (place : ℕ) → coefficient field rest place
      ≡ field.add (coefficient field residue place) (field.neg (coefficient field left place))
