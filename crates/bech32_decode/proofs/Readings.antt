-- The remainder that a text leaves, of which one walk shows the digits.
use Rattle.std.proofs.Common.{ℕ, List, sym, subst}
use Rattle.bech32_gf.specs.Fe32.{ops, elements_of}
use Rattle.bech32_gf.specs.laws.Fe32Laws.{is_field}
use Rattle.bech32_poly.specs.Remainder.{IsRemainder}
use Rattle.bech32_poly.proofs.Remainder.{remainder_exists}
use Rattle.bech32_checksum.specs.Code.{Code, IsResidueOf}
use Rattle.bech32_checksum.specs.TextPolynomial.{text_polynomial}
use Rattle.bech32_decode.specs.Reading.{IsReading}

pub residue-from_reading : {R : Type 0} (number : R → ℕ) (code : Code) (text hrp data_part : List ℕ) (residue : R) → IsReading code text hrp data_part (number residue)
    → IsResidueOf number code residue (text_polynomial hrp (elements_of data_part))
residue-from_reading number code text hrp data_part residue h =
    let p = text_polynomial hrp (elements_of data_part) in
    subst (IsRemainder ops code.generator p) (sym h.leaves) (remainder_exists is_field code.generator p)
