-- Segwit addresses put into a buffer and decoded into buffers, and why they are not.
use Rattle.std.specs.Prelude.{◌≡◌, ◌≢◌, ◌<◌, ◌≤◌, ◌⊎◌, ℕ, List, length}
use Rattle.std.specs.Str.{IsUtf8}
use Rattle.bech32_gf.specs.Fe32.{element}
use Rattle.bech32_gf.specs.declared.gf32.Fe32.{Fe32}
use Rattle.bech32_hrp.specs.Hrp.{IsHrp, lowered}
use Rattle.bech32_decode.specs.Segwit.{IsLowerAddress, IsAddress, IsSegwitRefusal}
use Rattle.bech32_decode.specs.Text.{HasHrp}
use Rattle.bech32_segwit.specs.SegwitEncoding.{HasAddress, address_length, IsSegwitEncodeRefusal}
use Rattle.bech32_segwit.specs.declared.error.EncodeError.TheVariants.{Memory as OutOfMemory}
use Rattle.bech32_encode.specs.Buffers.{IsPut}
use Rattle.bech32_calls.specs.Faults.{IsPartFault}
use Rattle.bech32_calls.specs.declared.refusal.Refusal.{Refusal}
use Rattle.bech32_calls.specs.declared.refusal.Refusal.TheVariants.{NotUtf8, BadNumber, NoRoom}
use Rattle.bech32_calls.specs.declared.refusal.Refusal.TheVariants.{NoAddress, Address}

-- ---- encoding

-- the address of a human-readable part, a version and a program is put into a buffer
pub record PutsAddress (hrp : List ℕ) (version : ℕ)
    (program old new : List ℕ) (count : ℕ) : Type 0 where
  pub text : List ℕ
  pub is_hrp : IsHrp hrp
  pub small : version ≤ 31
  pub is_address : IsLowerAddress hrp (element version) program text
  pub put : IsPut text old new count

-- there is an address, and a buffer of this many bytes has room for it
pub record HasRoomFor (hrp : List ℕ) (version : ℕ) (program : List ℕ) (room : ℕ) : Type 0 where
  pub is_hrp : IsHrp hrp
  pub small : version ≤ 31
  pub exists : HasAddress hrp (element version) program
  pub has_room : address_length hrp program ≤ room

-- why the address of a human-readable part, a version and a program is not put into a buffer of
-- `room` bytes: the first fault
abbrev pub IsAddressFault : List ℕ → Fe32 → List ℕ → ℕ → Refusal → Type 0
IsAddressFault hrp version program room (NoAddress e) =
    IsSegwitEncodeRefusal hrp version program e × (e ≢ OutOfMemory)
IsAddressFault hrp version program room NoRoom =
    HasAddress hrp version program × (room < address_length hrp program)
IsAddressFault hrp version program room _ = ⊥

-- the same of a number that may be no element, which is refused first, and of bytes that may
-- be no human-readable part
abbrev pub IsSegwitEncodeFault : List ℕ → ℕ → List ℕ → ℕ → Refusal → Type 0
IsSegwitEncodeFault hrp version program room e =
    ((31 < version) × (e ≡ BadNumber))
    ⊎ ((version ≤ 31)
    × (IsPartFault hrp e ⊎ (IsHrp hrp × IsAddressFault hrp (element version) program room e)))

-- ---- decoding

-- the parts of an address, which has one spelling in each case, are put into a buffer for the
-- human-readable part, in the case of the text, a number and a buffer for the program
pub record PutsProgram (text hrp hrp' program program' : List ℕ)
    (hrp_count version program_count : ℕ) : Type 0 where
  pub part : List ℕ
  pub witness_version : Fe32
  pub found : List ℕ
  pub is_hrp : IsHrp part
  pub has_part : HasHrp text part
  pub is_address : IsAddress part witness_version found text
  pub spelling : (h : List ℕ) → (t : List ℕ)
      → lowered h ≡ lowered part → IsAddress h witness_version found t → lowered t ≡ lowered text
  pub part_put : IsPut part hrp hrp' hrp_count
  pub version_is : version ≡ witness_version.value
  pub found_put : IsPut found program program' program_count

-- a text is an address, and buffers of this many bytes have room for its parts
pub record CanDecodeAddress (text : List ℕ) (hrp_room program_room : ℕ) : Type 0 where
  pub part : List ℕ
  pub version : Fe32
  pub found : List ℕ
  pub is_hrp : IsHrp part
  pub is_address : IsAddress part version found text
  pub part_fits : length part ≤ hrp_room
  pub found_fits : length found ≤ program_room

-- a part of an address does not fit in its buffer
pub record LacksRoomFor (text : List ℕ) (hrp_room program_room : ℕ) : Type 0 where
  pub part : List ℕ
  pub version : Fe32
  pub found : List ℕ
  pub is_hrp : IsHrp part
  pub is_address : IsAddress part version found text
  pub lacks : (hrp_room < length part) ⊎ (program_room < length found)

-- why nothing is put into buffers of this many bytes: the bytes are not a text, or the text's first
-- fault, or a buffer is too small
abbrev pub IsSegwitDecodeFault : List ℕ → ℕ → ℕ → Refusal → Type 0
IsSegwitDecodeFault text hrp_room program_room NotUtf8 = ¬ (IsUtf8 text)
IsSegwitDecodeFault text hrp_room program_room (Address e) = IsUtf8 text × IsSegwitRefusal text e
IsSegwitDecodeFault text hrp_room program_room NoRoom = LacksRoomFor text hrp_room program_room
IsSegwitDecodeFault text hrp_room program_room _ = ⊥
