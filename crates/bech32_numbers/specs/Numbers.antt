-- The numbers of refusals: from 11 for a human-readable part, 21 for characters, 31 for a checksum,
-- 41 for a segwit address, 51 for a text that is not written, 67 for a byte that is no element, and
-- 91 for out of memory. An error that carries another has its number.
use Rattle.std.specs.Prelude.{◌≡◌, ◌<◌, ℕ}
use Rattle.bech32_hrp.specs.declared.Error.{Error as HrpError}
use Rattle.bech32_hrp.specs.declared.Error.TheVariants.{Empty, TooLong as HrpTooLong}
use Rattle.bech32_hrp.specs.declared.Error.TheVariants.{NonAsciiChar, InvalidAsciiByte}
use Rattle.bech32_hrp.specs.declared.Error.TheVariants.{MixedCase as HrpMixedCase, Fmt as HrpFmt}
use Rattle.bech32_refusals.specs.declared.error.CharError.{CharError}
use Rattle.bech32_refusals.specs.declared.error.CharError.TheVariants.{InvalidChar, MixedCase}
use Rattle.bech32_refusals.specs.declared.error.CharError.TheVariants.{MissingSeparator}
use Rattle.bech32_refusals.specs.declared.error.CharError.TheVariants.{NothingAfterSeparator}
use Rattle.bech32_refusals.specs.declared.error.UncheckedHrpstringError.{UncheckedHrpstringError}
use Rattle.bech32_refusals.specs.declared.error.UncheckedHrpstringError.TheVariants.{Char, Hrp}
use Rattle.bech32_refusals.specs.declared.error.ChecksumError.{ChecksumError}
use Rattle.bech32_refusals.specs.declared.error.ChecksumError.TheVariants.{CodeLength}
use Rattle.bech32_refusals.specs.declared.error.ChecksumError.TheVariants.{InvalidLength}
use Rattle.bech32_refusals.specs.declared.error.ChecksumError.TheVariants.{InvalidResidue}
use Rattle.bech32_refusals.specs.declared.error.CheckedHrpstringError.{CheckedHrpstringError}
use Rattle.bech32_refusals.specs.declared.error.CheckedHrpstringError.TheVariants.{
  Parse as NoText,
  Checksum as Refused,
}
use Rattle.bech32_refusals.specs.declared.error.PaddingError.{PaddingError}
use Rattle.bech32_refusals.specs.declared.error.PaddingError.TheVariants.{TooMuch, NonZero}
use Rattle.bech32_refusals.specs.declared.error.SegwitHrpstringError.{SegwitHrpstringError}
use Rattle.bech32_refusals.specs.declared.error.SegwitHrpstringError.TheVariants.{
  Unchecked,
  TooLong as LongAddress,
  NoData,
  InvalidWitnessVersion,
  Padding,
  WitnessLength,
  Checksum as WrongChecksum,
  Memory as ProgramMemory,
}
use Rattle.bech32_refusals.specs.declared.segwit.WitnessLengthError.{WitnessLengthError}
use Rattle.bech32_refusals.specs.declared.segwit.WitnessLengthError.TheVariants.{
  TooShort,
  TooLong as LongProgram,
  InvalidSegwitV0,
}
use Rattle.bech32_correction.specs.declared.error.CorrectError.{CorrectError}
use Rattle.bech32_correction.specs.declared.error.CorrectError.TheVariants.{
  Refused as NotCorrected,
  Memory as CorrectMemory,
}
use Rattle.bech32_near.specs.declared.edits.error.EditsError.{EditsError}
use Rattle.bech32_near.specs.declared.edits.error.EditsError.TheVariants.{
  Refused as NotEdited,
  Memory as EditsMemory,
}
use Rattle.bech32_refusals.specs.declared.texts.DecodeError.{DecodeError}
use Rattle.bech32_refusals.specs.declared.texts.DecodeError.TheVariants.{Parse, Checksum}
use Rattle.bech32_refusals.specs.declared.texts.DecodeError.TheVariants.{Memory as DecodeMemory}
use Rattle.bech32_refusals.specs.declared.texts.TextError.{TextError}
use Rattle.bech32_refusals.specs.declared.texts.TextError.TheVariants.{
  Parse as NoTextOfIt,
  Checksum as NotByIt,
  Padding as LongPadding,
  Memory as TextMemory,
}
use Rattle.bech32_refusals.specs.declared.texts.ElementsError.{ElementsError}
use Rattle.bech32_refusals.specs.declared.texts.ElementsError.TheVariants.{
  TooLong as LongElements,
  Element,
  Memory as ElementsMemory,
}
use Rattle.bech32_refusals.specs.declared.texts.EncodeError.{EncodeError}
use Rattle.bech32_refusals.specs.declared.texts.EncodeError.TheVariants.{TooLong, Fmt}
use Rattle.bech32_refusals.specs.declared.texts.EncodeError.TheVariants.{Memory as EncodeMemory}
use Rattle.bech32_segwit.specs.declared.error.DecodeError.{DecodeError as SegwitDecodeError}
use Rattle.bech32_segwit.specs.declared.error.EncodeError.{EncodeError as SegwitEncodeError}
use Rattle.bech32_segwit.specs.declared.error.EncodeError.TheVariants.{
  WitnessVersion,
  WitnessLength as NoProgramLength,
  TooLong as NoAddressLength,
  Fmt as AddressFmt,
  Memory as AddressMemory,
}

-- a number of one or two digits, and not 0, which is not a refusal's
pub record IsSmall (number : ℕ) : Type 0 where
  pub above : 0 < number
  pub below : number < 100

-- a refusal has this number
pub record HasNumber {E : Type 0} (number_of : E → ℕ) (refusal : E) (number : ℕ) : Type 0 where
  pub value : number ≡ number_of refusal
  pub small : IsSmall number

-- of a human-readable part that is refused; the last comes of a value that does not
-- print, which no command reads
abbrev pub number_of_hrp_error : HrpError → ℕ
number_of_hrp_error Empty = 11
number_of_hrp_error (HrpTooLong n) = 12
number_of_hrp_error (NonAsciiChar c) = 13
number_of_hrp_error (InvalidAsciiByte b) = 14
number_of_hrp_error HrpMixedCase = 15
number_of_hrp_error HrpFmt = 16

-- of characters that are refused
abbrev pub number_of_char_error : CharError → ℕ
number_of_char_error (InvalidChar c) = 21
number_of_char_error MixedCase = 22
number_of_char_error MissingSeparator = 23
number_of_char_error NothingAfterSeparator = 24

-- of a text that is not in the grammar
abbrev pub number_of_text_error : UncheckedHrpstringError → ℕ
number_of_text_error (Char e) = number_of_char_error e
number_of_text_error (Hrp e) = number_of_hrp_error e

-- of a text that a checksum refuses
abbrev pub number_of_checksum_error : ChecksumError → ℕ
number_of_checksum_error (CodeLength e) = 31
number_of_checksum_error InvalidLength = 32
number_of_checksum_error (InvalidResidue e) = 33

-- of a text that a checksum refuses for its residue, and that no correction mends
abbrev pub number_of_no_correction : ℕ
number_of_no_correction = 34

-- of a text that is not in the grammar, or that a checksum refuses
abbrev pub number_of_checked_error : CheckedHrpstringError → ℕ
number_of_checked_error (NoText e) = number_of_text_error e
number_of_checked_error (Refused e) = number_of_checksum_error e

-- of a text that is not corrected, or near which none is looked for
abbrev pub number_of_correct_error : CorrectError → ℕ
number_of_correct_error (NotCorrected e) = number_of_checked_error e
number_of_correct_error CorrectMemory = 91

-- of a text of which no edits are looked for
abbrev pub number_of_edits_error : EditsError → ℕ
number_of_edits_error (NotEdited e) = number_of_text_error e
number_of_edits_error EditsMemory = 91

-- of bits behind the last whole byte that are refused
abbrev pub number_of_padding_error : PaddingError → ℕ
number_of_padding_error TooMuch = 44
number_of_padding_error NonZero = 45

-- of a program's length that is refused
abbrev pub number_of_length_error : WitnessLengthError → ℕ
number_of_length_error TooShort = 46
number_of_length_error LongProgram = 47
number_of_length_error InvalidSegwitV0 = 48

-- of a text that is not a segwit address
abbrev pub number_of_address_error : SegwitHrpstringError → ℕ
number_of_address_error (Unchecked e) = number_of_text_error e
number_of_address_error (LongAddress n) = 41
number_of_address_error NoData = 42
number_of_address_error (InvalidWitnessVersion v) = 43
number_of_address_error (Padding e) = number_of_padding_error e
number_of_address_error (WitnessLength e) = number_of_length_error e
number_of_address_error (WrongChecksum e) = number_of_checksum_error e
number_of_address_error ProgramMemory = 91

-- of a text that is not decoded
abbrev pub number_of_decode_error : DecodeError → ℕ
number_of_decode_error (Parse e) = number_of_text_error e
number_of_decode_error (Checksum e) = number_of_checksum_error e
number_of_decode_error DecodeMemory = 91

-- of a text that is not decoded by a checksum that is asked for
abbrev pub number_of_text_decode_error : TextError → ℕ
number_of_text_decode_error (NoTextOfIt e) = number_of_text_error e
number_of_text_decode_error (NotByIt e) = number_of_checksum_error e
number_of_text_decode_error (LongPadding e) = number_of_padding_error e
number_of_text_decode_error TextMemory = 91

-- of elements that are not written
abbrev pub number_of_elements_error : ElementsError → ℕ
number_of_elements_error (LongElements e) = 51
number_of_elements_error (Element place) = 67
number_of_elements_error ElementsMemory = 91

-- of a text that is not written
abbrev pub number_of_encode_error : EncodeError → ℕ
number_of_encode_error (TooLong e) = 51
number_of_encode_error (Fmt e) = 54
number_of_encode_error EncodeMemory = 91

-- of a segwit address that is not decoded
abbrev pub number_of_segwit_decode_error : SegwitDecodeError → ℕ
number_of_segwit_decode_error e = number_of_address_error e.0

-- of a segwit address that is not written
abbrev pub number_of_segwit_encode_error : SegwitEncodeError → ℕ
number_of_segwit_encode_error (WitnessVersion e) = 52
number_of_segwit_encode_error (NoProgramLength e) = number_of_length_error e
number_of_segwit_encode_error (NoAddressLength e) = 53
number_of_segwit_encode_error (AddressFmt e) = 54
number_of_segwit_encode_error AddressMemory = 91
