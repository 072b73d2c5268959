-- The remainders that a residue error carries, by their coefficients.
use Rattle.std.specs.Prelude.{◌≢◌, Bool, List, ◌==◌}
use Rattle.std.specs.Cmp.Lexicographic.{pointwise}
use Rattle.std.specs.Ordering.{eq_of_both, on}
use Rattle.bech32_gf.specs.Fe32.{ops, value}
use Rattle.bech32_gf.specs.declared.gf32.Fe32.{Fe32}
use Rattle.bech32_poly.specs.Polynomial.{IsSamePolynomial, add}
use Rattle.bech32_poly.specs.Remainder.{IsRemainder}
use Rattle.bech32_checksum.specs.Code.{Code}
use Rattle.bech32_refusals.specs.declared.error.InvalidResidueError.{InvalidResidueError}

-- of the remainder of a text
abbrev pub actual_row : InvalidResidueError → List Fe32
actual_row e = e.actual.digits

-- of the remainder that it should have left
abbrev pub target_row : InvalidResidueError → List Fe32
target_row e = e.target.digits

-- of what is left of the former where the latter is taken off; an element is its own negative
abbrev pub error_residue_of : InvalidResidueError → List Fe32
error_residue_of e = add ops (actual_row e) (target_row e)

-- two have the same coefficients of both
abbrev pub has_same_rows : InvalidResidueError → InvalidResidueError → Bool
has_same_rows =
    eq_of_both (on actual_row (pointwise (on value ◌==◌)))
    (on target_row (pointwise (on value ◌==◌)))

-- the error carries the remainder of a polynomial, which is not the target, and the target
pub record IsResidueError (code : Code) (polynomial : List Fe32)
    (e : InvalidResidueError) : Type 0 where
  pub remainder : List Fe32
  pub is_remainder : IsRemainder ops code.generator polynomial remainder
  pub not_target : remainder ≢ code.target
  pub actual : IsSamePolynomial ops (actual_row e) remainder
  pub target : IsSamePolynomial ops (target_row e) code.target
