-- Elements, a byte from 0 to 31 each, decoded into buffers and encoded into one, and why they are
-- not.
use Rattle.std.specs.Prelude.{◌<◌, ◌≤◌, ◌⊎◌, ℕ, List, length, Option, Some, None}
use Rattle.std.specs.Str.{IsUtf8}
use Rattle.bech32_checksum.specs.Code.{Code}
use Rattle.bech32_checksum.specs.Encoded.{IsEncodedText}
use Rattle.bech32_encode.specs.Buffers.{IsPut}
use Rattle.bech32_encode.specs.TextLength.{encoded_length_of}
use Rattle.bech32_hrp.specs.Hrp.{IsHrp}
use Rattle.bech32.specs.Elements.{AreValues, Fits, IsElementsEncodeRefusal, IsElementsDecodeRefusal}
use Rattle.bech32.specs.Elements.{elements_in}
use Rattle.bech32.specs.Spelling.{IsSpelledBy, IsSpelling}
use Rattle.bech32_refusals.specs.declared.texts.ElementsError.TheVariants.{
  TooLong as TextTooLong,
  Element,
}
use Rattle.bech32_refusals.specs.declared.texts.TextError.TheVariants.{
  Parse,
  Checksum as NotAccepted,
}
use Rattle.bech32_calls.specs.Faults.{IsPartFault}
use Rattle.bech32_calls.specs.declared.refusal.Refusal.{Refusal}
use Rattle.bech32_calls.specs.declared.refusal.Refusal.TheVariants.{NotUtf8, NoRoom, Text}
use Rattle.bech32_calls.specs.declared.refusal.Refusal.TheVariants.{Checksum, TooLong, BadElement}

-- ---- decoding

-- the human-readable part, in the case of the text, and the elements that the text is the only
-- spelling of are put into buffers
pub record PutsElements (text hrp hrp' elements elements' : List ℕ)
    (hrp_count elements_count : ℕ) (code : Code) : Type 0 where
  pub part : List ℕ
  pub found : List ℕ
  pub spelled : IsSpelledBy code text part (elements_in found)
  pub are_values : AreValues found
  pub part_put : IsPut part hrp hrp' hrp_count
  pub found_put : IsPut found elements elements' elements_count

-- a text spells elements, and buffers of this many bytes have room for its parts
pub record CanDecodeElements (text : List ℕ) (hrp_room elements_room : ℕ)
    (code : Code) : Type 0 where
  pub part : List ℕ
  pub found : List ℕ
  pub is_hrp : IsHrp part
  pub spelling : IsSpelling code part (elements_in found) text
  pub part_fits : length part ≤ hrp_room
  pub found_fits : length found ≤ elements_room

-- a part of a text that spells elements does not fit in its buffer
pub record LacksRoomForElements (text : List ℕ) (hrp_room elements_room : ℕ)
    (code : Code) : Type 0 where
  pub part : List ℕ
  pub found : List ℕ
  pub is_hrp : IsHrp part
  pub spelling : IsSpelling code part (elements_in found) text
  pub lacks : (hrp_room < length part) ⊎ (elements_room < length found)

-- why nothing is put into buffers of this many bytes: the bytes are not a text, or the text's first
-- fault, or a buffer is too small
abbrev pub IsElementsFault : List ℕ → ℕ → ℕ → Code → Refusal → Type 0
IsElementsFault text hrp_room elements_room code NotUtf8 = ¬ (IsUtf8 text)
IsElementsFault text hrp_room elements_room code (Text e) =
    IsUtf8 text × IsElementsDecodeRefusal code text (Parse e)
IsElementsFault text hrp_room elements_room code (Checksum e) =
    IsUtf8 text × IsElementsDecodeRefusal code text (NotAccepted e)
IsElementsFault text hrp_room elements_room code NoRoom =
    LacksRoomForElements text hrp_room elements_room code
IsElementsFault text hrp_room elements_room code _ = ⊥

-- ---- encoding

-- the text of a human-readable part and elements is put into a buffer
pub record PutsElementsText (hrp values old new : List ℕ) (count : ℕ) (code : Code) : Type 0 where
  pub text : List ℕ
  pub is_hrp : IsHrp hrp
  pub are_values : AreValues values
  pub is_text : IsEncodedText code hrp (elements_in values) text
  pub fits : Fits code hrp values
  pub put : IsPut text old new count

-- there is such a text, and a buffer of this many bytes has room for it
pub record HasElementsText (hrp values : List ℕ) (room : ℕ) (code : Code) : Type 0 where
  pub is_hrp : IsHrp hrp
  pub are_values : AreValues values
  pub fits : Fits code hrp values
  pub has_room : encoded_length_of code hrp (elements_in values) ≤ room

-- why the text of a human-readable part and numbers is not put into a buffer of this many bytes: it
-- is longer than the code, a number is above 31, or it is longer than the buffer
abbrev pub IsValuesFault : List ℕ → List ℕ → ℕ → Code → Refusal → Type 0
IsValuesFault hrp values room code (TooLong e) =
    IsElementsEncodeRefusal code hrp values (TextTooLong e)
IsValuesFault hrp values room code (BadElement place) =
    IsElementsEncodeRefusal code hrp values (Element place)
IsValuesFault hrp values room code NoRoom =
    Fits code hrp values × AreValues values
    × (room < encoded_length_of code hrp (elements_in values))
IsValuesFault hrp values room code _ = ⊥

-- the same of bytes that may be no human-readable part, which is refused first
abbrev pub IsElementsEncodeFault : List ℕ → List ℕ → ℕ → Code → Refusal → Type 0
IsElementsEncodeFault hrp values room code e =
    IsPartFault hrp e ⊎ (IsHrp hrp × IsValuesFault hrp values room code e)

-- the place of a byte that is above 31, where that is why
abbrev pub element_place : Refusal → Option ℕ
element_place (BadElement place) = Some place
element_place _ = None
