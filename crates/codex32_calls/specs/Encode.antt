-- The string of a header and bytes put into a buffer, and why none is.
use Rattle.std.specs.Prelude.{◌≡◌, ◌<◌, ◌≤◌, ◌+◌, ◌==◌, ◌&&◌, ◌||◌, not, if◌then◌else◌, ℕ}
use Rattle.std.specs.Prelude.{true, false, List, length, Option, None, Some}
use Rattle.bech32_bits.specs.Bits.{to_fes}
use Rattle.bech32_checksum.specs.Code.{Code}
use Rattle.bech32_encode.specs.Buffers.{IsPut}
use Rattle.bech32_gf.specs.Alphabet.{is_of_alphabet}
use Rattle.bech32_gf.specs.Fe32.{element_of, elements_of}
use Rattle.bech32_hrp.specs.Hrp.{first_of}
use Rattle.codex32.specs.Encode.{IsEncodedString, code_of_byte_count, is_byte_count}
use Rattle.codex32.specs.Encode.{is_long_byte_count}
use Rattle.codex32.specs.Header.{identifier_of_header, share_index_of_header}
use Rattle.codex32.specs.Header.{threshold_of_header}
use Rattle.codex32.specs.HeaderParts.{identifier_elements, identifier_word_fault}
use Rattle.codex32.specs.HeaderParts.{threshold_number}
use Rattle.codex32.specs.Thresholds.{is_threshold_number}
use Rattle.codex32.specs.declared.error.EncodeError.TheVariants as encode_errors
use Rattle.codex32.specs.declared.error.HeaderError.{HeaderError}
use Rattle.codex32.specs.declared.error.HeaderError.TheVariants as header_errors
use Rattle.codex32.specs.declared.header.Header.{Header as Head}
use Rattle.codex32_calls.specs.declared.refusal.Refusal.{Refusal}
use Rattle.codex32_calls.specs.declared.refusal.Refusal.TheVariants as refusals

-- a number is no threshold
abbrev pub threshold_number_fault : ℕ → Option HeaderError
threshold_number_fault t = if is_threshold_number t then None else Some header_errors.Threshold

-- a number is that of no character of the alphabet
abbrev pub share_index_number_fault : ℕ → Option HeaderError
share_index_number_fault x = if is_of_alphabet x then None else Some header_errors.ShareIndex

-- the threshold is 0, and the share index is not `s`
abbrev pub unshared_number_fault : ℕ → ℕ → Option HeaderError
unshared_number_fault t x =
    if t == 0 && not ((element_of x).value == 16) then Some header_errors.Unshared else None

-- what is wrong with what a header is to be made of, the first of: the threshold, the identifier,
-- the share index, that it is not `s` where the threshold is 0
abbrev pub header_number_fault : ℕ → List ℕ → ℕ → Option HeaderError
header_number_fault threshold identifier share_index =
    first_of (threshold_number_fault threshold)
    (first_of (identifier_word_fault identifier)
    (first_of (share_index_number_fault share_index)
    (unshared_number_fault threshold share_index)))

-- the header that is made of it
pub record IsHeaderOf (threshold : ℕ) (identifier : List ℕ) (share_index : ℕ) (h : Head)
    : Type 0 where
  pub fine : header_number_fault threshold identifier share_index ≡ None
  pub threshold_is : threshold_number (threshold_of_header h) ≡ threshold
  pub identifier_is : identifier_elements (identifier_of_header h) ≡ elements_of identifier
  pub share_index_is : share_index_of_header h ≡ element_of share_index

-- the text is the string of that header and bytes, of which a string has that many
pub record IsEncodedOf (threshold : ℕ) (identifier : List ℕ) (share_index : ℕ)
    (bytes text : List ℕ) : Type 0 where
  pub header : Head
  pub header_is : IsHeaderOf threshold identifier share_index header
  pub counted : is_byte_count (length bytes) || is_long_byte_count (length bytes) ≡ true
  pub is_encoded : IsEncodedString header bytes text

-- it is put into a buffer
pub record PutsEncoded (threshold : ℕ) (identifier : List ℕ) (share_index : ℕ)
    (bytes old new : List ℕ) (count : ℕ) : Type 0 where
  pub text : List ℕ
  pub is_text : IsEncodedOf threshold identifier share_index bytes text
  pub put : IsPut text old new count

-- the length of a string with this many characters of a payload: nine up to the share index, these,
-- and those of its checksum
abbrev pub string_length : Code → ℕ → ℕ
string_length code n = 9 + n + length code.generator

-- nothing is wrong with what a header is made of; a string has this many bytes; and a buffer of
-- `room` bytes has room for it
pub record CanEncode (threshold : ℕ) (identifier : List ℕ) (share_index : ℕ) (bytes : List ℕ)
    (room : ℕ) : Type 0 where
  pub fine : header_number_fault threshold identifier share_index ≡ None
  pub counted : is_byte_count (length bytes) || is_long_byte_count (length bytes) ≡ true
  pub fits : string_length (code_of_byte_count (length bytes)) (length (to_fes bytes)) ≤ room

-- the string does not fit in a buffer of this many bytes
pub record LacksRoomForEncoded (threshold : ℕ) (identifier : List ℕ) (share_index : ℕ)
    (bytes : List ℕ) (room : ℕ) : Type 0 where
  pub text : List ℕ
  pub is_text : IsEncodedOf threshold identifier share_index bytes text
  pub lacks : room < length text

-- why none is put into a buffer of this many bytes, the first of: what is wrong with the header, a
-- number of bytes that no string has, too little room
abbrev pub IsEncodeStringFault : ℕ → List ℕ → ℕ → List ℕ → ℕ → Refusal → Type 0
IsEncodeStringFault threshold identifier share_index bytes room (refusals.Header e) =
    header_number_fault threshold identifier share_index ≡ Some e
IsEncodeStringFault threshold identifier share_index bytes room (refusals.Encode e) =
    (header_number_fault threshold identifier share_index ≡ None) × (e ≡ encode_errors.Size)
    × (is_byte_count (length bytes) || is_long_byte_count (length bytes) ≡ false)
IsEncodeStringFault threshold identifier share_index bytes room refusals.NoRoom =
    LacksRoomForEncoded threshold identifier share_index bytes room
IsEncodeStringFault threshold identifier share_index bytes room _ = ⊥
