-- When a checksum accepts a text (BIP-173, Checksum; BIP-350), and what a decoded text gives.
use Rattle.std.specs.Prelude.{◌≡◌, ◌≤◌, ◌⊎◌, ◌-◌, ℕ, List, length, take}
use Rattle.bech32_gf.specs.Fe32.{ops, elements_of}
use Rattle.bech32_poly.specs.Remainder.{IsRemainder}
use Rattle.bech32_bits.specs.Bits.{to_bytes}
use Rattle.bech32_checksum.specs.Code.{Code, bech32, bech32m}
use Rattle.bech32_checksum.specs.TextPolynomial.{text_polynomial}
use Rattle.bech32_decode.specs.Text.{IsText}

-- the text is in the grammar with these parts, is not longer than the code, has room for the
-- checksum, and its polynomial has the target as remainder
pub record IsAccepted (code : Code) (text hrp data_part : List ℕ) : Type 0 where
  pub grammar : IsText text hrp data_part
  pub text_length : length text ≤ code.code_length
  pub data_length : length code.generator ≤ length data_part
  pub has_target :
      IsRemainder ops code.generator (text_polynomial hrp (elements_of data_part)) code.target

-- the checksum accepts the text
abbrev pub Accepts : Code → List ℕ → Type 0
Accepts code text = (hrp : List ℕ) × (data_part : List ℕ) × IsAccepted code text hrp data_part

-- Bech32m or Bech32 accepts the text
abbrev pub IsAcceptedByEither : List ℕ → Type 0
IsAcceptedByEither text = Accepts bech32m text ⊎ Accepts bech32 text

-- Bech32m or Bech32 accepts the text with this human-readable part, and these are the bytes of the
-- elements before its checksum
pub record IsDecoded (text hrp bytes : List ℕ) : Type 0 where
  pub data_part : List ℕ
  pub accepted : IsAccepted bech32m text hrp data_part ⊎ IsAccepted bech32 text hrp data_part
  pub bytes_are : bytes ≡ to_bytes (elements_of (take (length data_part - 6) data_part))
