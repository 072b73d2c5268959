-- What is told of a string of either length, and why a text is none.
use Rattle.std.specs.Prelude.{◌≡◌, ◌<◌, ◌≤◌, ℕ, List, length, map}
use Rattle.std.specs.Str.{IsUtf8}
use Rattle.bech32_bits.specs.Bits.{to_bytes}
use Rattle.bech32_checksum.specs.Encoded.{char_of_element}
use Rattle.bech32_encode.specs.Buffers.{IsPut}
use Rattle.bech32_gf.specs.Fe32.{elements_of}
use Rattle.codex32.specs.Header.{identifier_of_header, share_index_of_header}
use Rattle.codex32.specs.Header.{threshold_of_header}
use Rattle.codex32.specs.HeaderParts.{identifier_elements, threshold_number}
use Rattle.codex32.specs.Share.{IsShareRefusal, IsShareString}
use Rattle.codex32.specs.ShareParts.{bits_left_over}
use Rattle.codex32.specs.declared.header.Header.{Header as Head}
use Rattle.codex32_calls.specs.declared.refusal.Refusal.{Refusal}
use Rattle.codex32_calls.specs.declared.refusal.Refusal.TheVariants as refusals

-- the text is a string of either length with this header and payload
abbrev pub IsStringWith : List ℕ → Head → List ℕ → Type 0
IsStringWith text h payload =
    IsShareString text (threshold_of_header h) (identifier_of_header h) (share_index_of_header h)
    payload

-- the header is told: the number of the threshold, and in lower case the characters of the
-- identifier and of the share index
pub record IsTold (h : Head) (threshold : ℕ) (identifier : List ℕ) (share_index : ℕ) : Type 0 where
  pub threshold_is : threshold ≡ threshold_number (threshold_of_header h)
  pub identifier_is :
      identifier ≡ map char_of_element (identifier_elements (identifier_of_header h))
  pub share_index_is : share_index ≡ char_of_element (share_index_of_header h)

-- The text is a string of either length with this header, and the bytes of its payload are put into
-- a buffer; at most four bits are left over behind these.
pub record PutsPayload (text : List ℕ) (h : Head) (old new : List ℕ) (count : ℕ) : Type 0 where
  pub payload : List ℕ
  pub is_string : IsStringWith text h payload
  pub few : bits_left_over (length payload) ≤ 4
  pub put : IsPut (to_bytes (elements_of payload)) old new count

-- the same, and its header is told
pub record PutsShare (text : List ℕ) (threshold : ℕ) (identifier : List ℕ) (share_index : ℕ)
    (old new : List ℕ) (count : ℕ) : Type 0 where
  pub header : Head
  pub told : IsTold header threshold identifier share_index
  pub puts : PutsPayload text header old new count

-- the text is a string of either length with such a payload
pub record HasPayload (P : List ℕ → Type 0) (text : List ℕ) : Type 0 where
  pub header : Head
  pub payload : List ℕ
  pub is_string : IsStringWith text header payload
  pub holds : P payload

-- the text is a string of either length; at most four bits are left over behind the bytes of its
-- payload, and these fit in a buffer of this many bytes
abbrev pub CanReadShare : List ℕ → ℕ → Type 0
CanReadShare text room =
    HasPayload
    (λ payload. (bits_left_over (length payload) ≤ 4)
    × (length (to_bytes (elements_of payload)) ≤ room)) text

-- why bytes are not a string of either length: they are not a text, or the text's first fault
abbrev pub IsEitherFault : List ℕ → Refusal → Type 0
IsEitherFault text refusals.NotUtf8 = ¬ (IsUtf8 text)
IsEitherFault text (refusals.Text e) = IsUtf8 text × IsShareRefusal text e
IsEitherFault text _ = ⊥

-- why nothing is told, with a buffer of this many bytes: that; or, of a string, more than four bits
-- are left over behind the bytes of its payload; or these do not fit
abbrev pub IsShareFault : List ℕ → ℕ → Refusal → Type 0
IsShareFault text room (refusals.Payload e) =
    HasPayload (λ payload. 4 < bits_left_over (length payload)) text
IsShareFault text room refusals.NoRoom =
    HasPayload
    (λ payload. (bits_left_over (length payload) ≤ 4)
    × (room < length (to_bytes (elements_of payload)))) text
IsShareFault text room e = IsEitherFault text e
