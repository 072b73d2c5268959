-- What one walk over a text finds: its parts, and the remainder that it leaves.
use Rattle.std.specs.Prelude.{◌≡◌, ℕ, ◌*◌, ◌<◌, ◌^◌, List, length}
use Rattle.bech32_gf.specs.Fe32.{ops, elements_of}
use Rattle.bech32_poly.specs.Division.{remainder_of}
use Rattle.bech32_checksum.specs.Code.{Code}
use Rattle.bech32_checksum.specs.Packed.{digits}
use Rattle.bech32_checksum.specs.TextPolynomial.{text_polynomial}
use Rattle.bech32_decode.specs.Text.{IsText}

-- the text has these parts, and the digits of the number are the remainder that it leaves
pub record IsReading (code : Code) (text hrp data_part : List ℕ) (residue : ℕ) : Type 0 where
  pub grammar : IsText text hrp data_part
  pub clear : residue < 2 ^ (5 * length code.generator)
  pub leaves : digits (length code.generator) residue
      ≡ remainder_of ops code.generator (text_polynomial hrp (elements_of data_part))
