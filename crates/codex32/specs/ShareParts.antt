-- The places of a data part: six elements of the header, the payload, the checksum (BIP-93, codex32
-- and Long codex32 Strings).
use Rattle.std.specs.Prelude.{◌≡◌, ◌+◌, ◌-◌, ◌*◌, ◌%◌, ℕ, List, length, take, drop}
use Rattle.bech32_gf.specs.Fe32.{elements_of, ops}
use Rattle.bech32_poly.specs.Division.{remainder_of}
use Rattle.bech32_checksum.specs.Code.{Code}
use Rattle.bech32_checksum.specs.TextPolynomial.{text_polynomial}
pub use Rattle.codex32_steady.specs.texts.Parts.{ms}
use Rattle.codex32.specs.Code.{code_of_length}

-- the checksum of a data part, which stands behind three characters
abbrev pub code_of_data : List ℕ → Code
code_of_data data_part = code_of_length (3 + length data_part)

-- the characters between the share index and the checksum
abbrev pub payload_in : List ℕ → List ℕ
payload_in data_part =
    take (length data_part - (6 + length (code_of_data data_part).generator)) (drop 6 data_part)

-- the polynomial of the human-readable part and a data part leaves the target
abbrev pub HasTarget : List ℕ → Type 0
HasTarget data_part =
    remainder_of ops (code_of_data data_part).generator (text_polynomial ms (elements_of data_part))
    ≡ (code_of_data data_part).target

-- the bits that are left over behind the bytes of this many elements
abbrev pub bits_left_over : ℕ → ℕ
bits_left_over n = 5 * n % 8
