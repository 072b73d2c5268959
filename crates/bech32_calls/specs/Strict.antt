-- Texts that are the only ones of their bytes, decoded into buffers, and why they are not.
use Rattle.std.specs.Prelude.{◌<◌, ◌≤◌, ◌⊎◌, ℕ, List, length}
use Rattle.std.specs.Str.{IsUtf8}
use Rattle.bech32_bits.specs.Bits.{to_fes}
use Rattle.bech32_checksum.specs.Code.{Code}
use Rattle.bech32_encode.specs.Buffers.{IsPut}
use Rattle.bech32_hrp.specs.Hrp.{IsHrp}
use Rattle.bech32.specs.Spelling.{IsSpelledBy, IsSpelling, IsStrictRefusal}
use Rattle.bech32_refusals.specs.declared.texts.TextError.TheVariants.{
  Parse,
  Checksum as NotAccepted,
  Padding as NotPadded,
}
use Rattle.bech32_calls.specs.declared.refusal.Refusal.{Refusal}
use Rattle.bech32_calls.specs.declared.refusal.Refusal.TheVariants.{NotUtf8, NoRoom, Text}
use Rattle.bech32_calls.specs.declared.refusal.Refusal.TheVariants.{Checksum, Padding}

-- the human-readable part, in the case of the text, and the bytes that the text is the only
-- spelling of are put into buffers
pub record PutsStrict (text hrp hrp' bytes bytes' : List ℕ)
    (hrp_count bytes_count : ℕ) (code : Code) : Type 0 where
  pub part : List ℕ
  pub found : List ℕ
  pub spelled : IsSpelledBy code text part (to_fes found)
  pub part_put : IsPut part hrp hrp' hrp_count
  pub found_put : IsPut found bytes bytes' bytes_count

-- a text spells bytes, and buffers of this many bytes have room for its parts
pub record CanDecodeStrict (text : List ℕ) (hrp_room bytes_room : ℕ) (code : Code) : Type 0 where
  pub part : List ℕ
  pub found : List ℕ
  pub is_hrp : IsHrp part
  pub spelling : IsSpelling code part (to_fes found) text
  pub part_fits : length part ≤ hrp_room
  pub found_fits : length found ≤ bytes_room

-- a part of a text that spells bytes does not fit in its buffer
pub record LacksRoomForBytes (text : List ℕ) (hrp_room bytes_room : ℕ) (code : Code) : Type 0 where
  pub part : List ℕ
  pub found : List ℕ
  pub is_hrp : IsHrp part
  pub spelling : IsSpelling code part (to_fes found) text
  pub lacks : (hrp_room < length part) ⊎ (bytes_room < length found)

-- why nothing is put into buffers of this many bytes: the bytes are not a text, or the text's first
-- fault, or a buffer is too small
abbrev pub IsStrictFault : List ℕ → ℕ → ℕ → Code → Refusal → Type 0
IsStrictFault text hrp_room bytes_room code NotUtf8 = ¬ (IsUtf8 text)
IsStrictFault text hrp_room bytes_room code (Text e) =
    IsUtf8 text × IsStrictRefusal code text (Parse e)
IsStrictFault text hrp_room bytes_room code (Checksum e) =
    IsUtf8 text × IsStrictRefusal code text (NotAccepted e)
IsStrictFault text hrp_room bytes_room code (Padding e) =
    IsUtf8 text × IsStrictRefusal code text (NotPadded e)
IsStrictFault text hrp_room bytes_room code NoRoom =
    LacksRoomForBytes text hrp_room bytes_room code
IsStrictFault text hrp_room bytes_room code _ = ⊥
