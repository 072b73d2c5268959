-- Segwit addresses (BIP-173, Segwit address format; BIP-350), and why a text is none.
use Rattle.std.specs.Prelude.{◌≡◌, ◌≢◌, ◌<◌, ◌≤◌, ◌⊎◌, ℕ, if◌then◌else◌}
use Rattle.std.specs.Prelude.{◌==◌, List, [], ◌∷◌, map, length, Some}
use Rattle.std.specs.Char.{to_ascii_uppercase}
use Rattle.bech32_gf.specs.Fe32.{elements_of}
use Rattle.bech32_gf.specs.declared.gf32.Fe32.{Fe32}
use Rattle.bech32_bits.specs.Bits.{to_fes, to_bytes}
use Rattle.bech32_checksum.specs.Code.{Code, bech32, bech32m}
use Rattle.bech32_hrp.specs.Hrp.{IsHrp, lowered}
use Rattle.bech32_decode.specs.Text.{IsText, text_refusal}
use Rattle.bech32_checksum.specs.Encoded.{IsEncodedText}
use Rattle.bech32_decode.specs.Acceptance.{IsAccepted}
use Rattle.bech32_decode.specs.Refusals.{IsChecksumRefusal}
use Rattle.bech32_decode.specs.BeforeChecksum.{IsBeforeChecksum}
use Rattle.bech32_refusals.specs.SegwitRules.{IsProgramLength, IsLengthRefusal}
use Rattle.bech32_refusals.specs.SegwitRules.{max_address_length, max_witness_version}
use Rattle.bech32_decode.specs.SegwitPadding.{IsPadded, IsPaddingRefusal}
use Rattle.bech32_refusals.specs.declared.error.ChecksumError.{ChecksumError}
use Rattle.bech32_refusals.specs.declared.error.UncheckedHrpstringError.{UncheckedHrpstringError}
use Rattle.bech32_refusals.specs.declared.error.SegwitHrpstringError.{SegwitHrpstringError}
use Rattle.bech32_refusals.specs.declared.error.SegwitHrpstringError.TheVariants.{
  Unchecked,
  NoData,
  TooLong,
  InvalidWitnessVersion,
  Padding,
  WitnessLength,
  Checksum,
  Memory,
}

-- ---- the addresses

-- the checksum of a version's addresses (BIP-350)
abbrev pub segwit_code : Fe32 → Code
segwit_code version = if version.value == 0 then bech32 else bech32m

-- the lower-case address of a human-readable part, a version and a program
pub record IsLowerAddress (hrp : List ℕ) (version : Fe32) (program text : List ℕ) : Type 0 where
  pub version_fits : version.value ≤ max_witness_version
  pub program_length : IsProgramLength version (length program)
  pub text_length : length text ≤ max_address_length
  pub encoded : IsEncodedText (segwit_code version) hrp (version ∷ to_fes program) text

-- the address in lower case throughout or in upper case throughout
pub record IsAddress (hrp : List ℕ) (version : Fe32) (program text : List ℕ) : Type 0 where
  pub lower : List ℕ
  pub address : IsLowerAddress hrp version program lower
  pub in_one_case : (text ≡ lower) ⊎ (text ≡ map to_ascii_uppercase lower)

-- the text is the address of some human-readable part, version and program
abbrev pub IsAddressText : List ℕ → Type 0
IsAddressText text =
    (hrp : List ℕ) × (version : Fe32) × (program : List ℕ) × IsHrp hrp
    × IsAddress hrp version program text

-- the text is the address of these parts
abbrev pub IsDecodedAddress : List ℕ → List ℕ → Fe32 → List ℕ → Type 0
IsDecodedAddress text hrp version program = IsHrp hrp × IsAddress hrp version program text

-- each address of these parts, in either case, is the text but for its case
abbrev pub IsOneSpelling : List ℕ → List ℕ → Fe32 → List ℕ → Type 0
IsOneSpelling text hrp version program =
    (h : List ℕ) → (t : List ℕ) → lowered h ≡ lowered hrp → IsAddress h version program t
    → lowered t ≡ lowered text

-- ---- the elements before a checksum

-- a version, from 0 to 16, and others
pub record IsVersioned (fes : List Fe32) (version : Fe32) (others : List Fe32) : Type 0 where
  pub parts : fes ≡ version ∷ others
  pub fits : version.value ≤ max_witness_version

-- why they do not begin with a version: the first of two faults
abbrev pub IsVersionRefusal : List Fe32 → SegwitHrpstringError → Type 0
IsVersionRefusal fes NoData = fes ≡ []
IsVersionRefusal fes (InvalidWitnessVersion v) =
    (others : List Fe32) × (fes ≡ v ∷ others) × (max_witness_version < v.value)
IsVersionRefusal fes (Unchecked e) = ⊥
IsVersionRefusal fes (TooLong n) = ⊥
IsVersionRefusal fes (Padding e) = ⊥
IsVersionRefusal fes (WitnessLength e) = ⊥
IsVersionRefusal fes (Checksum e) = ⊥
IsVersionRefusal fes Memory = ⊥

-- a version and the elements of a program, in a text of n characters
pub record IsSegwitData (n : ℕ) (version : Fe32) (program : List Fe32) : Type 0 where
  pub text_length : n ≤ max_address_length
  pub version_fits : version.value ≤ max_witness_version
  pub padded : IsPadded program
  pub program_length : IsProgramLength version (length (to_bytes program))

-- why elements are not these: the first fault
abbrev pub IsDataRefusal : ℕ → List Fe32 → SegwitHrpstringError → Type 0
IsDataRefusal n fes NoData = fes ≡ []
IsDataRefusal n fes (TooLong m) = (fes ≢ []) × (max_address_length < n) × (m ≡ n)
IsDataRefusal n fes (InvalidWitnessVersion v) =
    (n ≤ max_address_length) × IsVersionRefusal fes (InvalidWitnessVersion v)
IsDataRefusal n fes (Padding e) =
    (n ≤ max_address_length) × (version : Fe32) × (program : List Fe32)
    × IsVersioned fes version program
    × IsPaddingRefusal program e
IsDataRefusal n fes (WitnessLength e) =
    (n ≤ max_address_length) × (version : Fe32) × (program : List Fe32)
    × IsVersioned fes version program
    × IsPadded program
    × IsLengthRefusal version (length (to_bytes program)) e
IsDataRefusal n fes (Unchecked e) = ⊥
IsDataRefusal n fes (Checksum e) = ⊥
IsDataRefusal n fes Memory = ⊥

-- ---- texts, where `code` says which checksum a version has

-- the error is why the text is not in the grammar
pub record IsUnread (text : List ℕ) (e : SegwitHrpstringError) : Type 0 where
  pub error : UncheckedHrpstringError
  pub is : e ≡ Unchecked error
  pub refusal : text_refusal text ≡ Some error

-- the data part begins with no version
pub record IsWithoutVersion (text : List ℕ) (e : SegwitHrpstringError) : Type 0 where
  pub hrp : List ℕ
  pub data_part : List ℕ
  pub grammar : IsText text hrp data_part
  pub refusal : IsVersionRefusal (elements_of data_part) e

-- it begins with one, and the checksum of that version is refused
pub record IsOfWrongChecksum (code : Fe32 → Code)
    (text : List ℕ) (e : SegwitHrpstringError) : Type 0 where
  pub hrp : List ℕ
  pub data_part : List ℕ
  pub grammar : IsText text hrp data_part
  pub version : Fe32
  pub others : List Fe32
  pub versioned : IsVersioned (elements_of data_part) version others
  pub error : ChecksumError
  pub is : e ≡ Checksum error
  pub refusal : IsChecksumRefusal (code version) (length text) hrp data_part error

-- the checksum is right, and what stands before it is not the data of an address
pub record IsOfWrongData (code : Fe32 → Code)
    (text : List ℕ) (e : SegwitHrpstringError) : Type 0 where
  pub hrp : List ℕ
  pub data_part : List ℕ
  pub version : Fe32
  pub others : List Fe32
  pub versioned : IsVersioned (elements_of data_part) version others
  pub accepted : IsAccepted (code version) text hrp data_part
  pub characters : List ℕ
  pub before : IsBeforeChecksum (code version) data_part characters
  pub refusal : IsDataRefusal (length text) (elements_of characters) e

-- why a text is refused: the first of four faults
abbrev pub IsAddressRefusal : (Fe32 → Code) → List ℕ → SegwitHrpstringError → Type 0
IsAddressRefusal code text e =
    IsUnread text e ⊎ IsWithoutVersion text e ⊎ IsOfWrongChecksum code text e
    ⊎ IsOfWrongData code text e

-- why a text is not an address: it is too long, or the first of those
abbrev pub IsSegwitRefusal : List ℕ → SegwitHrpstringError → Type 0
IsSegwitRefusal text e =
    ((max_address_length < length text) × (e ≡ TooLong (length text)))
    ⊎ ((length text ≤ max_address_length) × IsAddressRefusal segwit_code text e)
