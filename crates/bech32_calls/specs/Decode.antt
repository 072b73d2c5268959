-- Texts decoded into buffers, and why they are not.
use Rattle.std.specs.Prelude.{◌<◌, ◌≤◌, ◌⊎◌, ℕ, List, length}
use Rattle.std.specs.Str.{IsUtf8}
use Rattle.bech32_decode.specs.Acceptance.{IsDecoded}
use Rattle.bech32.specs.Refusals.{IsDecodeRefusal}
use Rattle.bech32_refusals.specs.declared.texts.DecodeError.TheVariants.{Parse}
use Rattle.bech32_refusals.specs.declared.texts.DecodeError.TheVariants.{
  Checksum as NoChecksumAccepts,
}
use Rattle.bech32_encode.specs.Buffers.{IsPut}
use Rattle.bech32_calls.specs.declared.refusal.Refusal.{Refusal}
use Rattle.bech32_calls.specs.declared.refusal.Refusal.TheVariants.{NotUtf8, NoRoom, Text, Checksum}

-- what is decoded of a text is put into a buffer for the human-readable part and one for the bytes
pub record PutsDecoded (text hrp hrp' bytes bytes' : List ℕ)
    (hrp_count bytes_count : ℕ) : Type 0 where
  pub part : List ℕ
  pub found : List ℕ
  pub is_decoded : IsDecoded text part found
  pub part_put : IsPut part hrp hrp' hrp_count
  pub found_put : IsPut found bytes bytes' bytes_count

-- a text is decoded, and buffers of this many bytes have room for its parts
pub record CanDecode (text : List ℕ) (hrp_room bytes_room : ℕ) : Type 0 where
  pub part : List ℕ
  pub found : List ℕ
  pub is_decoded : IsDecoded text part found
  pub part_fits : length part ≤ hrp_room
  pub found_fits : length found ≤ bytes_room

-- what is decoded of a text does not fit in one of the buffers
pub record LacksRoom (text : List ℕ) (hrp_room bytes_room : ℕ) : Type 0 where
  pub part : List ℕ
  pub found : List ℕ
  pub is_decoded : IsDecoded text part found
  pub lacks : (hrp_room < length part) ⊎ (bytes_room < length found)

-- why bytes are not decoded: they are not a text, or the text's first fault
abbrev pub IsReadFault : List ℕ → Refusal → Type 0
IsReadFault text NotUtf8 = ¬ (IsUtf8 text)
IsReadFault text (Text e) = IsUtf8 text × IsDecodeRefusal text (Parse e)
IsReadFault text (Checksum e) = IsUtf8 text × IsDecodeRefusal text (NoChecksumAccepts e)
IsReadFault text _ = ⊥

-- why nothing is put into buffers of this many bytes
abbrev pub IsDecodeFault : List ℕ → ℕ → ℕ → Refusal → Type 0
IsDecodeFault text hrp_room bytes_room NoRoom = LacksRoom text hrp_room bytes_room
IsDecodeFault text hrp_room bytes_room e = IsReadFault text e
