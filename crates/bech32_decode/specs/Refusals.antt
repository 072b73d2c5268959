-- Why a checksum does not accept a text.
use Rattle.std.specs.Prelude.{◌≡◌, ◌<◌, ◌≤◌, ℕ, List, length}
use Rattle.bech32_gf.specs.Fe32.{ops, elements_of}
use Rattle.bech32_poly.specs.Remainder.{IsRemainder}
use Rattle.bech32_checksum.specs.Code.{Code, bech32, bech32m}
use Rattle.bech32_checksum.specs.TextPolynomial.{text_polynomial}
use Rattle.bech32_decode.specs.Text.{IsText}
use Rattle.bech32_decode.specs.Acceptance.{Accepts}
use Rattle.bech32_refusals.specs.declared.error.ChecksumError.{ChecksumError}
use Rattle.bech32_refusals.specs.declared.error.ChecksumError.TheVariants.{CodeLength}
use Rattle.bech32_refusals.specs.declared.error.ChecksumError.TheVariants.{InvalidLength}
use Rattle.bech32_refusals.specs.declared.error.ChecksumError.TheVariants.{InvalidResidue}
use Rattle.bech32_decode.specs.declared.unchecked.UncheckedHrpstring.{UncheckedHrpstring}
use Rattle.bech32_decode.specs.Parts.{unchecked_part, unchecked_data, unchecked_length}
use Rattle.bech32_refusals.specs.ResidueRows.{IsResidueError}

-- a text of n bytes with these parts is not longer than the code, has room for the checksum, and
-- its polynomial has the target as remainder
abbrev pub HasValidChecksum : Code → ℕ → List ℕ → List ℕ → Type 0
HasValidChecksum code n hrp data_part =
    (n ≤ code.code_length) × (length code.generator ≤ length data_part)
    × IsRemainder ops code.generator (text_polynomial hrp (elements_of data_part)) code.target

-- why a checksum refuses a text of n bytes with these parts: the first of three faults
abbrev pub IsChecksumRefusal : Code → ℕ → List ℕ → List ℕ → ChecksumError → Type 0
IsChecksumRefusal code n hrp data_part (CodeLength e) =
    (code.code_length < n) × (e ≡ record { encoded_length = n; code_length = code.code_length })
IsChecksumRefusal code n hrp data_part InvalidLength =
    (n ≤ code.code_length) × (length data_part < length code.generator)
IsChecksumRefusal code n hrp data_part (InvalidResidue e) =
    (n ≤ code.code_length) × (length code.generator ≤ length data_part)
    × IsResidueError code (text_polynomial hrp (elements_of data_part)) e

-- a text of n bytes is not longer than the code, and a data part of k characters has room for the
-- checksum
abbrev pub HasLengths : Code → ℕ → ℕ → Type 0
HasLengths code n k = (n ≤ code.code_length) × (length code.generator ≤ k)

-- why a text of such lengths is refused, whatever its characters are
abbrev pub IsLengthsRefusal : Code → ℕ → ℕ → ChecksumError → Type 0
IsLengthsRefusal code n k e =
    (hrp data_part : List ℕ) → length data_part ≡ k → IsChecksumRefusal code n hrp data_part e

-- a text that was read is not longer than the code, and has room for the checksum
abbrev pub HasLengthsOf : Code → UncheckedHrpstring → Type 0
HasLengthsOf code u = HasLengths code (unchecked_length u) (length (unchecked_data u))

-- the checksum of a text that was read is right
abbrev pub IsValidBy : Code → UncheckedHrpstring → Type 0
IsValidBy code u = HasValidChecksum code (unchecked_length u) (unchecked_part u) (unchecked_data u)

-- why it is not
abbrev pub IsInvalidBy : Code → UncheckedHrpstring → ChecksumError → Type 0
IsInvalidBy code u e =
    IsChecksumRefusal code (unchecked_length u) (unchecked_part u) (unchecked_data u) e

-- Bech32m refuses the text by this error, and Bech32 does not accept it
pub record IsRefusedByBoth (text : List ℕ) (e : ChecksumError) : Type 0 where
  pub hrp : List ℕ
  pub data_part : List ℕ
  pub grammar : IsText text hrp data_part
  pub refusal : IsChecksumRefusal bech32m (length text) hrp data_part e
  pub not_bech32 : Accepts bech32 text → ⊥
