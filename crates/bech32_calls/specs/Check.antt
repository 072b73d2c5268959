-- A text tested by a checksum: the lengths of its parts, or why it is not accepted.
use Rattle.std.specs.Prelude.{◌≡◌, ◌+◌, ℕ, List, length}
use Rattle.std.specs.Str.{IsUtf8}
use Rattle.bech32_checksum.specs.Code.{Code}
use Rattle.bech32_decode.specs.Acceptance.{IsAccepted}
use Rattle.bech32_decode.specs.Checked.{IsCheckedRefusal}
use Rattle.bech32_refusals.specs.declared.error.CheckedHrpstringError.{CheckedHrpstringError}
use Rattle.bech32_refusals.specs.declared.error.CheckedHrpstringError.TheVariants.{
  Parse,
  Checksum as NotAccepted,
}
use Rattle.bech32_calls.specs.declared.refusal.Refusal.{Refusal}
use Rattle.bech32_calls.specs.declared.refusal.Refusal.TheVariants.{NotUtf8, Text, Checksum}

-- the checksum accepts the text, with a human-readable part and a data part of these
-- lengths, the checksum not counted
pub record IsCheckedAs (text : List ℕ) (hrp_length data_length : ℕ) (code : Code) : Type 0 where
  pub hrp : List ℕ
  pub data_part : List ℕ
  pub accepted : IsAccepted code text hrp data_part
  pub hrp_length_is : hrp_length ≡ length hrp
  pub data_length_is : data_length + length code.generator ≡ length data_part

-- the refusal that an error is answered by
abbrev pub refusal_of_checked : CheckedHrpstringError → Refusal
refusal_of_checked (Parse e) = Text e
refusal_of_checked (NotAccepted e) = Checksum e

-- why bytes are not accepted: they are not a text, or the text's first fault
abbrev pub IsCheckFault : List ℕ → Code → Refusal → Type 0
IsCheckFault text code NotUtf8 = ¬ (IsUtf8 text)
IsCheckFault text code (Text e) = IsUtf8 text × IsCheckedRefusal code text (Parse e)
IsCheckFault text code (Checksum e) = IsUtf8 text × IsCheckedRefusal code text (NotAccepted e)
IsCheckFault text code _ = ⊥
