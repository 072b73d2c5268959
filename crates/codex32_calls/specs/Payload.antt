-- The string of a header and the characters of a payload put into a buffer, and why none is.
use Rattle.std.specs.Prelude.{◌≡◌, ◌<◌, ◌≤◌, ◌||◌, ℕ, true, false, List, length, None, Some}
use Rattle.bech32_encode.specs.Buffers.{IsPut}
use Rattle.bech32_gf.specs.Alphabet.{is_data}
use Rattle.bech32_gf.specs.Fe32.{elements_of}
use Rattle.bech32_hrp.specs.Hrp.{is_mixed_case}
use Rattle.codex32.specs.Encode.{IsEncodedPayload, code_of_payload_count}
use Rattle.codex32.specs.Encode.{is_long_payload_count, is_payload_count}
use Rattle.codex32.specs.declared.error.EncodeError.TheVariants as encode_errors
use Rattle.codex32.specs.declared.header.Header.{Header as Head}
use Rattle.codex32_calls.specs.Encode.{IsHeaderOf, header_number_fault, string_length}
use Rattle.codex32_calls.specs.declared.refusal.Refusal.{Refusal}
use Rattle.codex32_calls.specs.declared.refusal.Refusal.TheVariants as refusals

-- characters are those of a payload, of whatever number: of the alphabet, in one case
pub record IsPayload (characters : List ℕ) : Type 0 where
  pub of_alphabet : is_data characters ≡ true
  pub one_case : is_mixed_case characters ≡ false

-- why characters are not, the first of: one is not of the alphabet; there are letters of both cases
abbrev pub IsPayloadFault : List ℕ → Refusal → Type 0
IsPayloadFault characters refusals.InvalidCharacter = is_data characters ≡ false
IsPayloadFault characters refusals.MixedCase =
    (is_data characters ≡ true) × (is_mixed_case characters ≡ true)
IsPayloadFault characters _ = ⊥

-- the text is the string of that header and those characters, of which a string has that many
pub record IsEncodedPayloadOf (threshold : ℕ) (identifier : List ℕ) (share_index : ℕ)
    (characters text : List ℕ) : Type 0 where
  pub header : Head
  pub header_is : IsHeaderOf threshold identifier share_index header
  pub is_payload : IsPayload characters
  pub counted :
      is_payload_count (length characters) || is_long_payload_count (length characters) ≡ true
  pub is_encoded : IsEncodedPayload header (elements_of characters) text

-- it is put into a buffer
pub record PutsEncodedPayload (threshold : ℕ) (identifier : List ℕ) (share_index : ℕ)
    (characters old new : List ℕ) (count : ℕ) : Type 0 where
  pub text : List ℕ
  pub is_text : IsEncodedPayloadOf threshold identifier share_index characters text
  pub put : IsPut text old new count

-- nothing is wrong with what a header is made of, nor with the characters; a string has this many
-- of them; and a buffer of `room` bytes has room for it
pub record CanEncodePayload (threshold : ℕ) (identifier : List ℕ) (share_index : ℕ)
    (characters : List ℕ) (room : ℕ) : Type 0 where
  pub fine : header_number_fault threshold identifier share_index ≡ None
  pub is_payload : IsPayload characters
  pub counted :
      is_payload_count (length characters) || is_long_payload_count (length characters) ≡ true
  pub fits :
      string_length (code_of_payload_count (length characters)) (length characters) ≤ room

-- the string does not fit in a buffer of this many bytes
pub record LacksRoomForPayload (threshold : ℕ) (identifier : List ℕ) (share_index : ℕ)
    (characters : List ℕ) (room : ℕ) : Type 0 where
  pub text : List ℕ
  pub is_text : IsEncodedPayloadOf threshold identifier share_index characters text
  pub lacks : room < length text

-- why none is put into a buffer of this many bytes, the first of: what is wrong with the header,
-- with the characters, a number of characters that no string has, too little room
abbrev pub IsEncodePayloadFault : ℕ → List ℕ → ℕ → List ℕ → ℕ → Refusal → Type 0
IsEncodePayloadFault threshold identifier share_index characters room (refusals.Header e) =
    header_number_fault threshold identifier share_index ≡ Some e
IsEncodePayloadFault threshold identifier share_index characters room (refusals.Encode e) =
    (header_number_fault threshold identifier share_index ≡ None)
    × IsPayload characters × (e ≡ encode_errors.Size)
    × (is_payload_count (length characters) || is_long_payload_count (length characters) ≡ false)
IsEncodePayloadFault threshold identifier share_index characters room refusals.NoRoom =
    LacksRoomForPayload threshold identifier share_index characters room
IsEncodePayloadFault threshold identifier share_index characters room e =
    (header_number_fault threshold identifier share_index ≡ None) × IsPayloadFault characters e
