-- A segwit address in its parts.
use Rattle.std.specs.Prelude.{◌≡◌, ℕ, List, ◌∷◌, drop, length}
use Rattle.bech32_gf.specs.Fe32.{elements_of}
use Rattle.bech32_gf.specs.declared.gf32.Fe32.{Fe32}
use Rattle.bech32_checksum.specs.Code.{Code}
use Rattle.bech32_decode.specs.Acceptance.{IsAccepted}
use Rattle.bech32_decode.specs.BeforeChecksum.{IsBeforeChecksum}
use Rattle.bech32_decode.specs.Checked.{IsWithoutChecksum}
use Rattle.bech32_decode.specs.Parts.{checked_hrp, checked_data, checked_length, address_hrp}
use Rattle.bech32_decode.specs.Parts.{address_part, address_version, address_data}
use Rattle.bech32_decode.specs.Refusals.{IsValidBy, IsInvalidBy}
use Rattle.bech32_decode.specs.Segwit.{IsSegwitData, IsDataRefusal}
use Rattle.bech32_decode.specs.declared.address.SegwitHrpstring.{SegwitHrpstring}
use Rattle.bech32_decode.specs.declared.checked.CheckedHrpstring.{CheckedHrpstring}
use Rattle.bech32_refusals.specs.declared.error.ChecksumError.{ChecksumError}
use Rattle.bech32_refusals.specs.declared.error.SegwitHrpstringError.{SegwitHrpstringError}
use Rattle.bech32_refusals.specs.declared.error.SegwitHrpstringError.TheVariants.{Checksum}
use Rattle.bech32_decode.specs.declared.unchecked.UncheckedHrpstring.{UncheckedHrpstring}

-- the same text, with its version taken off, by the rules of segwit addresses
pub record IsSegwitOf (c : CheckedHrpstring) (a : SegwitHrpstring) : Type 0 where
  pub hrp : address_hrp a ≡ checked_hrp c
  pub elements : elements_of (checked_data c) ≡ address_version a ∷ elements_of (address_data a)
  pub characters : address_data a ≡ drop 1 (checked_data c)
  pub lawful : IsSegwitData (checked_length c) (address_version a) (elements_of (address_data a))

-- these characters before a checksum are a version and the characters of a program, by the rules of
-- segwit addresses, in a text of n characters
pub record IsDataOf (n : ℕ) (checked : List ℕ)
    (version : Fe32) (program : List ℕ) : Type 0 where
  pub elements : elements_of checked ≡ version ∷ elements_of program
  pub characters : program ≡ drop 1 checked
  pub lawful : IsSegwitData n version (elements_of program)

-- the text is accepted by the checksum of this version, and has this human-readable part and these
-- characters of a program
pub record IsReadIn (code : Fe32 → Code)
    (text hrp : List ℕ) (version : Fe32) (program : List ℕ) : Type 0 where
  pub data_part : List ℕ
  pub accepted : IsAccepted (code version) text hrp data_part
  pub checked : List ℕ
  pub before : IsBeforeChecksum (code version) data_part checked
  pub elements : elements_of checked ≡ version ∷ elements_of program
  pub characters : program ≡ drop 1 checked
  pub lawful : IsSegwitData (length text) version (elements_of program)

-- the text is accepted by the checksum of its version, and has these parts
abbrev pub IsReadAddress : (Fe32 → Code) → List ℕ → SegwitHrpstring → Type 0
IsReadAddress code text a = IsReadIn code text (address_part a) (address_version a) (address_data a)

-- the checksum of u is right, and a is u by the rules of segwit addresses
pub record IsReadBy (code : Code) (u : UncheckedHrpstring) (a : SegwitHrpstring) : Type 0 where
  pub valid : IsValidBy code u
  pub checked : CheckedHrpstring
  pub without : IsWithoutChecksum code u checked
  pub segwit : IsSegwitOf checked a

-- the checksum of u is refused
pub record IsRefusedBy (code : Code) (u : UncheckedHrpstring)
    (e : SegwitHrpstringError) : Type 0 where
  pub error : ChecksumError
  pub is : e ≡ Checksum error
  pub refusal : IsInvalidBy code u error

-- the checksum of u is right, and what stands before it is not the data of an address
pub record IsWrongDataOf (code : Code) (u : UncheckedHrpstring)
    (e : SegwitHrpstringError) : Type 0 where
  pub valid : IsValidBy code u
  pub checked : CheckedHrpstring
  pub without : IsWithoutChecksum code u checked
  pub refusal : IsDataRefusal (checked_length checked) (elements_of (checked_data checked)) e
