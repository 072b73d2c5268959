-- The numbers of refusals, apart from those of rows with another human-readable part and of buffers that are too small.
use Rattle.std.proofs.Common.{◌≡◌, ◌∙◌, ℕ, List, inl, inr, sym, ap, arith}
use Rattle.bech32_hrp.specs.declared.Error.{Error as HrpError}
use Rattle.bech32_hrp.specs.declared.Error.TheVariants.{Empty, TooLong as HrpTooLong, NonAsciiChar, InvalidAsciiByte, MixedCase as HrpMixedCase, Fmt as HrpFmt}
use Rattle.bech32_refusals.specs.declared.error.CharError.{CharError}
use Rattle.bech32_refusals.specs.declared.error.CharError.TheVariants.{InvalidChar, MixedCase, MissingSeparator, NothingAfterSeparator}
use Rattle.bech32_refusals.specs.declared.error.UncheckedHrpstringError.TheVariants.{Char, Hrp}
use Rattle.bech32_refusals.specs.declared.error.ChecksumError.{ChecksumError}
use Rattle.bech32_refusals.specs.declared.error.ChecksumError.TheVariants.{CodeLength, InvalidLength, InvalidResidue}
use Rattle.bech32_refusals.specs.declared.error.PaddingError.{PaddingError}
use Rattle.bech32_refusals.specs.declared.error.PaddingError.TheVariants.{TooMuch, NonZero}
use Rattle.bech32_refusals.specs.declared.segwit.WitnessLengthError.{WitnessLengthError}
use Rattle.bech32_refusals.specs.declared.segwit.WitnessLengthError.TheVariants.{TooShort, TooLong as LongProgram, InvalidSegwitV0}
use Rattle.bech32_refusals.specs.declared.error.SegwitHrpstringError.{SegwitHrpstringError}
use Rattle.bech32_refusals.specs.declared.error.SegwitHrpstringError.TheVariants.{Unchecked, TooLong, NoData, InvalidWitnessVersion, Padding, WitnessLength, Checksum, Memory}
use Rattle.bech32_numbers.specs.Numbers.{number_of_address_error, number_of_char_error, number_of_checksum_error, number_of_hrp_error, number_of_length_error, number_of_padding_error}
use Rattle.bech32_calls.specs.Numbers.{number_of}
use Rattle.bech32_calls.specs.Segwit.{IsSegwitDecodeFault}
use Rattle.bech32_calls.specs.declared.refusal.Refusal.{Refusal}
use Rattle.bech32_calls.specs.declared.refusal.Refusal.TheVariants.{BadNumber, NotUtf8, NoRoom, Address, Hrp as OfHrp}
use Rattle.bech32_calls.specs.Faults.{IsPartFault}
use Rattle.bech32_calls.proofs.Letters.{no_part_fault}
use Rattle.bech32_more_calls.specs.columns.Decoded.{CanDecodeMany, IsDecodeManyFault}
use Rattle.bech32_more_calls.specs.declared.columns.column.Column.{Column}

hrp : (e : HrpError) → number_of_hrp_error e ≡ 49 → ⊥
hrp Empty h = absurd (omega (arith, h))
hrp (HrpTooLong n) h = absurd (omega (arith, h))
hrp (NonAsciiChar c) h = absurd (omega (arith, h))
hrp (InvalidAsciiByte b) h = absurd (omega (arith, h))
hrp HrpMixedCase h = absurd (omega (arith, h))
hrp HrpFmt h = absurd (omega (arith, h))

char : (e : CharError) → number_of_char_error e ≡ 49 → ⊥
char (InvalidChar c) h = absurd (omega (arith, h))
char MixedCase h = absurd (omega (arith, h))
char MissingSeparator h = absurd (omega (arith, h))
char NothingAfterSeparator h = absurd (omega (arith, h))

checksum : (e : ChecksumError) → number_of_checksum_error e ≡ 49 → ⊥
checksum (CodeLength e) h = absurd (omega (arith, h))
checksum InvalidLength h = absurd (omega (arith, h))
checksum (InvalidResidue e) h = absurd (omega (arith, h))

padding : (e : PaddingError) → number_of_padding_error e ≡ 49 → ⊥
padding TooMuch h = absurd (omega (arith, h))
padding NonZero h = absurd (omega (arith, h))

program : (e : WitnessLengthError) → number_of_length_error e ≡ 49 → ⊥
program TooShort h = absurd (omega (arith, h))
program LongProgram h = absurd (omega (arith, h))
program InvalidSegwitV0 h = absurd (omega (arith, h))

address : (e : SegwitHrpstringError) → number_of_address_error e ≡ 49 → ⊥
address (Unchecked (Char e)) h = char e h
address (Unchecked (Hrp e)) h = hrp e h
address (TooLong n) h = absurd (omega (arith, h))
address NoData h = absurd (omega (arith, h))
address (InvalidWitnessVersion v) h = absurd (omega (arith, h))
address (Padding e) h = padding e h
address (WitnessLength e) h = program e h
address (Checksum e) h = checksum e h
address Memory h = absurd (omega (arith, h))

-- no text that is not an address has the number of one with another human-readable part
pub not_other : (text : List ℕ) (m n : ℕ) (e : Refusal) → IsSegwitDecodeFault text m n e → number_of e ≡ 49 → ⊥
not_other text m n NotUtf8 f h = absurd (omega (arith, h))
not_other text m n (Address e) f h = address e h
not_other text m n NoRoom f h = absurd (omega (arith, h))
not_other text m n _ f h = f

of_hrp : (e : HrpError) → number_of_hrp_error e ≡ 92 → ⊥
of_hrp Empty h = absurd (omega (arith, h))
of_hrp (HrpTooLong n) h = absurd (omega (arith, h))
of_hrp (NonAsciiChar c) h = absurd (omega (arith, h))
of_hrp (InvalidAsciiByte b) h = absurd (omega (arith, h))
of_hrp HrpMixedCase h = absurd (omega (arith, h))
of_hrp HrpFmt h = absurd (omega (arith, h))

part : (hrp : List ℕ) (e : Refusal) → IsPartFault hrp e → number_of e ≡ 92 → ⊥
part hrp NotUtf8 f h = absurd (omega (arith, h))
part hrp (OfHrp e) f h = of_hrp e h
part hrp _ f h = f

-- what refuses all rows has not the number of a buffer that is too small
pub not_room : (c : Column) (first count : ℕ) (hrp : List ℕ) (e : Refusal) → IsDecodeManyFault c first count hrp e → number_of e ≡ 92 → ⊥
not_room c first count hrp e (inl (is, none)) h = let n : number_of BadNumber ≡ 92 = sym (ap number_of is) ∙ h in absurd (omega (arith, n))
not_room c first count hrp e (inr (rows, some, fault)) h = part hrp e fault h

-- and nothing refuses rows that are there, where the part may be wanted
pub not_refused : (c : Column) (first count : ℕ) (hrp : List ℕ) (e : Refusal) → CanDecodeMany c first count hrp → IsDecodeManyFault c first count hrp e → ⊥
not_refused c first count hrp e (rows, wanted) (inl (is, none)) = none rows
not_refused c first count hrp e (rows, inl none) (inr (there, some, fault)) = some none
not_refused c first count hrp e (rows, inr part) (inr (there, some, fault)) = no_part_fault hrp e part fault
