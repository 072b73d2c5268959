-- A text whose checksum was taken off, and why a checksum does not accept a text.
use Rattle.std.specs.Prelude.{◌≡◌, ℕ, List, length, Some}
use Rattle.bech32_checksum.specs.Code.{Code}
use Rattle.bech32_decode.specs.Text.{IsText, text_refusal}
use Rattle.bech32_decode.specs.Acceptance.{IsAccepted}
use Rattle.bech32_decode.specs.BeforeChecksum.{IsBeforeChecksum}
use Rattle.bech32_decode.specs.Parts.{unchecked_hrp, unchecked_data, unchecked_length}
use Rattle.bech32_decode.specs.Parts.{checked_hrp, checked_part, checked_data, checked_length}
use Rattle.bech32_decode.specs.Refusals.{IsChecksumRefusal}
use Rattle.bech32_decode.specs.declared.checked.CheckedHrpstring.{CheckedHrpstring}
use Rattle.bech32_refusals.specs.declared.error.CheckedHrpstringError.{CheckedHrpstringError}
use Rattle.bech32_refusals.specs.declared.error.CheckedHrpstringError.TheVariants.{Parse, Checksum}
use Rattle.bech32_refusals.specs.declared.error.ChecksumError.{ChecksumError}
use Rattle.bech32_decode.specs.declared.unchecked.UncheckedHrpstring.{UncheckedHrpstring}

-- the same text without its checksum
pub record IsWithoutChecksum (code : Code)
    (u : UncheckedHrpstring) (c : CheckedHrpstring) : Type 0 where
  pub hrp : checked_hrp c ≡ unchecked_hrp u
  pub characters : IsBeforeChecksum code (unchecked_data u) (checked_data c)
  pub text_length : checked_length c ≡ unchecked_length u

-- the text is accepted, with this human-readable part and these characters before its checksum
pub record IsAcceptedAs (code : Code) (text : List ℕ) (c : CheckedHrpstring) : Type 0 where
  pub data_part : List ℕ
  pub accepted : IsAccepted code text (checked_part c) data_part
  pub characters : IsBeforeChecksum code data_part (checked_data c)
  pub text_length : checked_length c ≡ length text

-- a text of the grammar that its checksum refuses by this error
pub record IsRefusedByChecksum (code : Code) (text : List ℕ) (e : ChecksumError) : Type 0 where
  pub hrp : List ℕ
  pub data_part : List ℕ
  pub grammar : IsText text hrp data_part
  pub refusal : IsChecksumRefusal code (length text) hrp data_part e

-- why a checksum does not accept a text: it is not a text, or its checksum is refused
abbrev pub IsCheckedRefusal : Code → List ℕ → CheckedHrpstringError → Type 0
IsCheckedRefusal code text (Parse e) = text_refusal text ≡ Some e
IsCheckedRefusal code text (Checksum e) = IsRefusedByChecksum code text e
