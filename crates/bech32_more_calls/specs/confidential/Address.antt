-- Confidential addresses put into a buffer and decoded into buffers, and why they are not.
use Rattle.std.specs.Prelude.{◌≡◌, ◌<◌, ◌≤◌, ◌⊎◌, ℕ, List, length}
use Rattle.std.specs.Str.{IsUtf8}
use Rattle.bech32_gf.specs.Fe32.{element}
use Rattle.bech32_gf.specs.declared.gf32.Fe32.{Fe32}
use Rattle.bech32_hrp.specs.Hrp.{IsHrp}
use Rattle.bech32_encode.specs.Buffers.{IsPut}
use Rattle.bech32_calls.specs.Faults.{IsPartFault}
use Rattle.bech32_calls.specs.declared.refusal.Refusal.{Refusal as OtherRefusal}
use Rattle.bech32_calls.specs.declared.refusal.Refusal.TheVariants.{NotUtf8, BadNumber, NoRoom}
use Rattle.blech32.specs.Words.{blech32_code}
use Rattle.liquid.specs.Confidential.{IsDecodedConfidential, IsLowerConfidential}
use Rattle.liquid.specs.Parts.{confidential_key, confidential_part}
use Rattle.liquid.specs.Parts.{confidential_program, confidential_version}
use Rattle.liquid.specs.Refusals.{IsConfidentialRefusal}
use Rattle.liquid.specs.Writing.{IsConfidentialEncodeRefusal, IsVersionAndLength}
use Rattle.liquid.specs.Writing.{confidential_length}
use Rattle.liquid.specs.declared.address.Address.{Address}
use Rattle.liquid.specs.declared.error.EncodeError.TheVariants.{Memory}
use Rattle.bech32_more_calls.specs.declared.confidential.refusal.Refusal.{Refusal}
use Rattle.bech32_more_calls.specs.declared.confidential.refusal.Refusal.TheVariants.{
  Other,
  NoAddress,
}
use Rattle.bech32_more_calls.specs.declared.confidential.refusal.Refusal.TheVariants.{
  Address as NotAddress,
}

-- ---- encoding

-- the address of a human-readable part, a version, a blinding key and a program is put into a
-- buffer
pub record PutsConfidential (hrp : List ℕ) (version : ℕ)
    (key program old new : List ℕ) (count : ℕ) : Type 0 where
  pub text : List ℕ
  pub is_hrp : IsHrp hrp
  pub small : version ≤ 31
  pub is_address : IsLowerConfidential blech32_code hrp (element version) key program text
  pub put : IsPut text old new count

-- there is an address of a program of n bytes, and a buffer of `room` bytes has room for it
pub record HasRoomForConfidential (hrp : List ℕ) (version n room : ℕ) : Type 0 where
  pub is_hrp : IsHrp hrp
  pub small : version ≤ 31
  pub exists : IsVersionAndLength (element version) n
  pub has_room : confidential_length hrp n ≤ room

-- why a number is not an element, or bytes are not a human-readable part
abbrev pub IsGivenFault : List ℕ → ℕ → OtherRefusal → Type 0
IsGivenFault hrp version e =
    ((31 < version) × (e ≡ BadNumber)) ⊎ ((version ≤ 31) × IsPartFault hrp e)

-- why no address is put of a human-readable part: of a program of n bytes there is none, or the
-- buffer is too small
abbrev pub IsConfidentialFault : List ℕ → Fe32 → ℕ → ℕ → Refusal → Type 0
IsConfidentialFault hrp version n room (NoAddress e) =
    IsConfidentialEncodeRefusal version n e × (e ≡ Memory → ⊥)
IsConfidentialFault hrp version n room (Other NoRoom) =
    IsVersionAndLength version n × (room < confidential_length hrp n)
IsConfidentialFault hrp version n room _ = ⊥

-- the same of a number that may be no element, which is refused first, and of bytes that may be no
-- human-readable part
abbrev pub IsLiquidEncodeFault : List ℕ → ℕ → ℕ → ℕ → Refusal → Type 0
IsLiquidEncodeFault hrp version n room e =
    ((o : OtherRefusal) × (e ≡ Other o) × IsGivenFault hrp version o)
    ⊎ ((version ≤ 31) × IsHrp hrp × IsConfidentialFault hrp (element version) n room e)

-- ---- decoding

-- the text is this address
abbrev pub IsDecodedAs : List ℕ → Address → Type 0
IsDecodedAs text a = IsDecodedConfidential blech32_code text
    (confidential_part a) (confidential_version a) (confidential_key a) (confidential_program a)

-- the parts of an address, which has one spelling in each case, are put into a buffer for the
-- human-readable part, in the case of the text, a number, a blinding key and a buffer for the
-- program
pub record PutsParts (text hrp hrp' key program program' : List ℕ)
    (hrp_count version program_count : ℕ) : Type 0 where
  pub part : List ℕ
  pub witness_version : Fe32
  pub found : List ℕ
  pub decoded : IsDecodedConfidential blech32_code text part witness_version key found
  pub part_put : IsPut part hrp hrp' hrp_count
  pub version_is : version ≡ witness_version.value
  pub found_put : IsPut found program program' program_count

-- a part of an address does not fit in its buffer
abbrev pub LacksRoomForParts : Address → ℕ → ℕ → Refusal → Type 0
LacksRoomForParts a hrp_room program_room e = (e ≡ Other NoRoom)
    × ((hrp_room < length (confidential_part a)) ⊎ (program_room < length (confidential_program a)))

-- the same of the address that a text is
abbrev pub LacksRoomForFound : List ℕ → ℕ → ℕ → Type 0
LacksRoomForFound text hrp_room program_room = (a : Address) × IsDecodedAs text a
    × ((hrp_room < length (confidential_part a)) ⊎ (program_room < length (confidential_program a)))

-- why nothing is put into buffers of this many bytes: the bytes are not a text, or the text's first
-- fault, or a buffer is too small
abbrev pub IsLiquidDecodeFault : List ℕ → ℕ → ℕ → Refusal → Type 0
IsLiquidDecodeFault text hrp_room program_room (Other NotUtf8) = ¬ (IsUtf8 text)
IsLiquidDecodeFault text hrp_room program_room (NotAddress e) =
    IsUtf8 text × IsConfidentialRefusal blech32_code text e
IsLiquidDecodeFault text hrp_room program_room (Other NoRoom) =
    LacksRoomForFound text hrp_room program_room
IsLiquidDecodeFault text hrp_room program_room _ = ⊥
