-- Why a text is not a confidential address.
use Rattle.std.specs.Prelude.{◌≡◌, ◌<◌, ◌≤◌, ◌⊎◌, ◌-◌, ℕ, List, [], ◌∷◌, Some, length}
use Rattle.bech32_gf.specs.Fe32.{elements_of}
use Rattle.bech32_gf.specs.declared.gf32.Fe32.{Fe32}
use Rattle.bech32_bits.specs.Bits.{to_bytes}
use Rattle.bech32_checksum.specs.Code.{Code}
use Rattle.bech32_decode.specs.Acceptance.{IsAccepted}
use Rattle.bech32_decode.specs.BeforeChecksum.{IsBeforeChecksum}
use Rattle.bech32_decode.specs.Refusals.{IsChecksumRefusal}
use Rattle.bech32_decode.specs.Segwit.{IsVersioned}
use Rattle.bech32_decode.specs.SegwitPadding.{IsPadded, IsPaddingRefusal}
use Rattle.bech32_decode.specs.Text.{IsText, text_refusal}
use Rattle.bech32_refusals.specs.SegwitRules.{IsLengthRefusal, max_witness_version}
use Rattle.bech32_refusals.specs.declared.error.ChecksumError.{ChecksumError}
use Rattle.liquid.specs.declared.error.DecodeError.{DecodeError}
use Rattle.liquid.specs.declared.error.DecodeError.TheVariants.{Unchecked, NoData}
use Rattle.liquid.specs.declared.error.DecodeError.TheVariants.{InvalidWitnessVersion}
use Rattle.liquid.specs.declared.error.DecodeError.TheVariants.{UnsupportedVersion, Checksum}
use Rattle.liquid.specs.declared.error.DecodeError.TheVariants.{Padding, NoBlindingKey}
use Rattle.liquid.specs.declared.error.DecodeError.TheVariants.{WitnessLength}

-- why elements do not begin with version 0: the first of three faults
abbrev pub IsOtherVersion : List Fe32 → DecodeError → Type 0
IsOtherVersion fes NoData = fes ≡ []
IsOtherVersion fes (InvalidWitnessVersion v) =
    (others : List Fe32) × (fes ≡ v ∷ others) × (max_witness_version < v.value)
IsOtherVersion fes (UnsupportedVersion v) =
    (others : List Fe32) × (fes ≡ v ∷ others) × (0 < v.value) × (v.value ≤ max_witness_version)
IsOtherVersion fes _ = ⊥

-- why the elements behind a version are not those of a blinding key and a program: the first fault
abbrev pub IsKeyAndProgramRefusal : Fe32 → List Fe32 → DecodeError → Type 0
IsKeyAndProgramRefusal version fes (Padding e) = IsPaddingRefusal fes e
IsKeyAndProgramRefusal version fes NoBlindingKey = IsPadded fes × (length (to_bytes fes) < 33)
IsKeyAndProgramRefusal version fes (WitnessLength e) =
    IsPadded fes × (33 ≤ length (to_bytes fes))
    × IsLengthRefusal version (length (to_bytes fes) - 33) e
IsKeyAndProgramRefusal version fes _ = ⊥

-- the data part does not begin with version 0
pub record IsOfOtherVersion (text : List ℕ) (e : DecodeError) : Type 0 where
  pub hrp : List ℕ
  pub data_part : List ℕ
  pub grammar : IsText text hrp data_part
  pub refusal : IsOtherVersion (elements_of data_part) e

-- it does, and the checksum refuses the text
pub record HasWrongChecksum (code : Code) (text : List ℕ) (e : ChecksumError) : Type 0 where
  pub hrp : List ℕ
  pub data_part : List ℕ
  pub grammar : IsText text hrp data_part
  pub version : Fe32
  pub others : List Fe32
  pub versioned : IsVersioned (elements_of data_part) version others
  pub version_is : version.value ≡ 0
  pub refusal : IsChecksumRefusal code (length text) hrp data_part e

-- the checksum accepts it, and these are the elements before the checksum
pub record HasElements (code : Code) (text : List ℕ) (elements : List Fe32) : Type 0 where
  pub hrp : List ℕ
  pub data_part : List ℕ
  pub version : Fe32
  pub others : List Fe32
  pub versioned : IsVersioned (elements_of data_part) version others
  pub version_is : version.value ≡ 0
  pub accepted : IsAccepted code text hrp data_part
  pub characters : List ℕ
  pub before : IsBeforeChecksum code data_part characters
  pub elements_are : elements ≡ elements_of characters

-- and behind the version is not what an address has there
pub record IsOfWrongPayload (code : Code) (text : List ℕ) (e : DecodeError) : Type 0 where
  pub version : Fe32
  pub payload : List Fe32
  pub has : HasElements code text (version ∷ payload)
  pub refusal : IsKeyAndProgramRefusal version payload e

-- why a text is not a confidential address: it is not in the grammar; it begins with no version, or
-- not with version 0; the checksum refuses it; no version stands before the checksum; what stands
-- behind the version is not the payload of an address
abbrev pub IsConfidentialRefusal : Code → List ℕ → DecodeError → Type 0
IsConfidentialRefusal code text (Unchecked e) = text_refusal text ≡ Some e
IsConfidentialRefusal code text NoData = IsOfOtherVersion text NoData ⊎ HasElements code text []
IsConfidentialRefusal code text (InvalidWitnessVersion v) =
    IsOfOtherVersion text (InvalidWitnessVersion v)
IsConfidentialRefusal code text (UnsupportedVersion v) =
    IsOfOtherVersion text (UnsupportedVersion v)
IsConfidentialRefusal code text (Checksum e) = HasWrongChecksum code text e
IsConfidentialRefusal code text (Padding e) = IsOfWrongPayload code text (Padding e)
IsConfidentialRefusal code text NoBlindingKey = IsOfWrongPayload code text NoBlindingKey
IsConfidentialRefusal code text (WitnessLength e) = IsOfWrongPayload code text (WitnessLength e)
