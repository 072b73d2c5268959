-- The numbers of refusals, none of which is 0.
use Rattle.std.proofs.Common.{◌≡◌, ◌≢◌, ◌<◌, ◌≤◌, ℕ, List, Result, Ok, Err, MatchResult, length, arith}
use Rattle.bech32_hrp.specs.declared.Error.{Error as HrpError}
use Rattle.bech32_hrp.specs.declared.Error.TheVariants.{Empty, TooLong as HrpTooLong, NonAsciiChar, InvalidAsciiByte, MixedCase as HrpMixedCase, Fmt as HrpFmt}
use Rattle.bech32_refusals.specs.declared.error.CharError.{CharError}
use Rattle.bech32_refusals.specs.declared.error.CharError.TheVariants.{InvalidChar, MixedCase, MissingSeparator, NothingAfterSeparator}
use Rattle.bech32_refusals.specs.declared.error.UncheckedHrpstringError.{UncheckedHrpstringError}
use Rattle.bech32_refusals.specs.declared.error.UncheckedHrpstringError.TheVariants.{Char, Hrp as NoHrp}
use Rattle.bech32_refusals.specs.declared.error.ChecksumError.{ChecksumError}
use Rattle.bech32_refusals.specs.declared.error.ChecksumError.TheVariants.{CodeLength, InvalidLength, InvalidResidue}
use Rattle.bech32_refusals.specs.declared.error.PaddingError.{PaddingError}
use Rattle.bech32_refusals.specs.declared.error.PaddingError.TheVariants.{TooMuch, NonZero}
use Rattle.bech32_refusals.specs.declared.error.SegwitHrpstringError.{SegwitHrpstringError}
use Rattle.bech32_refusals.specs.declared.error.SegwitHrpstringError.TheVariants.{Unchecked, TooLong as LongAddress, NoData, InvalidWitnessVersion, Padding as BadPadding, WitnessLength, Checksum as WrongChecksum, Memory as ProgramMemory}
use Rattle.bech32_refusals.specs.declared.segwit.WitnessLengthError.{WitnessLengthError}
use Rattle.bech32_refusals.specs.declared.segwit.WitnessLengthError.TheVariants.{TooShort, TooLong as LongProgram, InvalidSegwitV0}
use Rattle.bech32_segwit.specs.declared.error.EncodeError.{EncodeError as SegwitEncodeError}
use Rattle.bech32_segwit.specs.declared.error.EncodeError.TheVariants.{WitnessVersion, WitnessLength as NoProgramLength, TooLong as NoAddressLength, Fmt as AddressFmt, Memory as AddressMemory}
use Rattle.bech32_numbers.specs.Numbers.{number_of_address_error, number_of_char_error, number_of_checksum_error, number_of_hrp_error, number_of_length_error, number_of_padding_error, number_of_segwit_encode_error, number_of_text_error}
use Rattle.bech32_calls.specs.Faults.{IsNumberOf, IsTextFault}
use Rattle.bech32_calls.specs.Numbers.{number_of}
use Rattle.bech32_calls.specs.Segwit.{IsSegwitDecodeFault}
use Rattle.bech32_calls.specs.declared.refusal.Refusal.{Refusal}
use Rattle.bech32_calls.proofs.Addresses.{unread_address}
use Rattle.bech32_calls.specs.declared.refusal.Refusal.TheVariants.{NotUtf8, BadNumber, BadElement, NoRoom, NoCorrection, Memory, Hrp, TooLong, Text, Checksum, Padding, NoAddress, Address}
use Rattle.bech32_refusals.specs.SegwitRules.{max_address_length}

-- what is said of a refusal is said of its number
pub numbered : {P Q : Refusal → Type 0} → (n : ℕ) → ((e : Refusal) → P e → Q e) → IsNumberOf P n → IsNumberOf Q n
numbered n f h = record { refusal = h.refusal; holds = f h.refusal h.holds; number = h.number }

some_hrp : (e : HrpError) → 0 < number_of_hrp_error e
some_hrp Empty = omega arith
some_hrp (HrpTooLong n) = omega arith
some_hrp (NonAsciiChar c) = omega arith
some_hrp (InvalidAsciiByte b) = omega arith
some_hrp HrpMixedCase = omega arith
some_hrp HrpFmt = omega arith

some_char : (e : CharError) → 0 < number_of_char_error e
some_char (InvalidChar c) = omega arith
some_char MixedCase = omega arith
some_char MissingSeparator = omega arith
some_char NothingAfterSeparator = omega arith

some_text : (e : UncheckedHrpstringError) → 0 < number_of_text_error e
some_text (Char e) = some_char e
some_text (NoHrp e) = some_hrp e

some_checksum : (e : ChecksumError) → 0 < number_of_checksum_error e
some_checksum (CodeLength e) = omega arith
some_checksum InvalidLength = omega arith
some_checksum (InvalidResidue e) = omega arith

some_padding : (e : PaddingError) → 0 < number_of_padding_error e
some_padding TooMuch = omega arith
some_padding NonZero = omega arith

some_length : (e : WitnessLengthError) → 0 < number_of_length_error e
some_length TooShort = omega arith
some_length LongProgram = omega arith
some_length InvalidSegwitV0 = omega arith

some_address : (e : SegwitHrpstringError) → 0 < number_of_address_error e
some_address (Unchecked e) = some_text e
some_address (LongAddress n) = omega arith
some_address NoData = omega arith
some_address (InvalidWitnessVersion v) = omega arith
some_address (BadPadding e) = some_padding e
some_address (WitnessLength e) = some_length e
some_address (WrongChecksum e) = some_checksum e
some_address ProgramMemory = omega arith

some_segwit : (e : SegwitEncodeError) → 0 < number_of_segwit_encode_error e
some_segwit (WitnessVersion e) = omega arith
some_segwit (NoProgramLength e) = some_length e
some_segwit (NoAddressLength e) = omega arith
some_segwit (AddressFmt e) = omega arith
some_segwit AddressMemory = omega arith

some_number : (e : Refusal) → 0 < number_of e
some_number NotUtf8 = omega arith
some_number BadNumber = omega arith
some_number (BadElement place) = omega arith
some_number NoRoom = omega arith
some_number NoCorrection = omega arith
some_number Memory = omega arith
some_number (Hrp e) = some_hrp e
some_number (TooLong e) = omega arith
some_number (Text e) = some_text e
some_number (Checksum e) = some_checksum e
some_number (Padding e) = some_padding e
some_number (NoAddress e) = some_segwit e
some_number (Address e) = some_address e

-- the number of a refusal is not 0
pub not_zero : {P : Refusal → Type 0} → (n : ℕ) → IsNumberOf P n → n ≢ 0
not_zero n h none = omega (arith, some_number h.refusal, h.number, none)

-- a text that is not read is no address, by the same number
module _ (text : List ℕ) (m n k : ℕ) (few : length text ≤ max_address_length) where
  of_refusal : (e : Refusal) → IsTextFault text e → k ≡ number_of e → IsNumberOf (IsSegwitDecodeFault text m n) k
  of_refusal NotUtf8 h is = record { refusal = NotUtf8; holds = h; number = is }
  of_refusal (Text e) h is = record { refusal = Address (Unchecked e); holds = unread_address text m n e few h; number = is }
  of_refusal _ h is = absurd h

  pub unread_number : IsNumberOf (IsTextFault text) k → IsNumberOf (IsSegwitDecodeFault text m n) k
  unread_number h = of_refusal h.refusal h.holds h.number

pub read_number : {R : Type 0} (P : R → Type 0) (text : List ℕ) (read : Result R ℕ) → length text ≤ max_address_length → MatchResult read P (λ n. IsNumberOf (IsTextFault text) n)
    → MatchResult read (λ r. P r × (length text ≤ max_address_length)) (λ n. (m k : ℕ) → IsNumberOf (IsSegwitDecodeFault text m k) n)
read_number P text (Ok r) few h = (h, few)
read_number P text (Err n) few h = λ m k. unread_number text m k n few h
