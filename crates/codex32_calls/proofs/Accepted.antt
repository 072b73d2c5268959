-- Nothing is wrong where a string is to be read, made or proposed, and there is room for it.
use Rattle.std.specs.Prelude.{IsOk}
use Rattle.std.proofs.Common.{◌≡◌, ℕ, List, ◌++◌, length, Result, Err, sym, ap, ◌∙◌, arith}
use Rattle.std.proofs.lemmas.List.{length-append, length-map}
use Rattle.std.specs.Str.{IsUtf8}
use Rattle.bech32_bits.specs.Bits.{to_bytes, to_fes}
use Rattle.bech32_checksum.specs.Code.{Code}
use Rattle.bech32_checksum.specs.Encoded.{IsEncodedText}
use Rattle.bech32_checksum.proofs.Uniqueness.{length-encoded}
use Rattle.bech32_gf.specs.Fe32.{element_of, elements_of}
use Rattle.bech32_gf.specs.declared.gf32.Fe32.{Fe32}
use Rattle.codex32.specs.Encode.{code_of_byte_count, code_of_payload_count}
use Rattle.codex32.specs.Header.{header_elements, identifier_of_header, share_index_of_header, threshold_of_header}
use Rattle.codex32.specs.Share.{IsEither}
use Rattle.codex32.specs.ShareParts.{bits_left_over, ms}
use Rattle.codex32.specs.declared.error.Codex32Error.{Codex32Error}
use Rattle.codex32.specs.declared.header.Header.{Header}
use Rattle.codex32.specs.declared.share.Share.{Share}
use Rattle.codex32.proofs.OneString.{same_parts}
use Rattle.codex32.proofs.ShareParts.{length-header}
use Rattle.codex32.proofs.ShareStrings.{accepts-from_outcome}
use Rattle.codex32_calls.specs.Encode.{CanEncode, IsEncodeStringFault, LacksRoomForEncoded, string_length}
use Rattle.codex32_calls.specs.Payload.{CanEncodePayload, IsEncodePayloadFault, LacksRoomForPayload}
use Rattle.codex32_calls.specs.Share.{CanReadShare, HasPayload, IsEitherFault, IsShareFault}
use Rattle.codex32_calls.specs.declared.refusal.Refusal.{Refusal}
use Rattle.codex32_calls.specs.declared.refusal.Refusal.TheVariants as refusals
use Rattle.codex32_calls.proofs.Letters.{IsUtf8-from_text}

-- ---- strings

pub utf8-from_either : (t : List ℕ) → IsEither t → IsUtf8 t
utf8-from_either t (threshold, identifier, x, payload, is) = IsUtf8-from_text t is.hrp (is.front ++ (payload ++ is.checksum)) is.accepted.grammar

pub no_either_fault : (t : List ℕ) (e : Refusal) → IsEither t → IsEitherFault t e → ⊥
no_either_fault t refusals.NotUtf8 is h = h (utf8-from_either t is)
no_either_fault t (refusals.Text e) is h =
    let r : Result Share Codex32Error = Err e in
    let ok : IsOk r = (accepts-from_outcome t h.0 r h.1).1 is in
    absurd cc
no_either_fault t refusals.BadLengths is h = h
no_either_fault t refusals.InvalidCharacter is h = h
no_either_fault t refusals.MixedCase is h = h
no_either_fault t (refusals.Header e) is h = h
no_either_fault t (refusals.Payload e) is h = h
no_either_fault t (refusals.Encode e) is h = h
no_either_fault t (refusals.Derive e) is h = h
no_either_fault t (refusals.Split e) is h = h
no_either_fault t refusals.NoNearest is h = h
no_either_fault t refusals.NoRoom is h = h

-- a text has one payload
one_payload : (P Q : List ℕ → Type 0) (t : List ℕ) (a : HasPayload P t) (b : HasPayload Q t) → a.payload ≡ b.payload
one_payload P Q t a b =
    (same_parts t (threshold_of_header a.header) (threshold_of_header b.header) (identifier_of_header a.header) (identifier_of_header b.header)
    (share_index_of_header a.header) (share_index_of_header b.header) a.payload b.payload a.is_string b.is_string).3

pub either-from_payload : (P : List ℕ → Type 0) (t : List ℕ) → HasPayload P t → IsEither t
either-from_payload P t a = (threshold_of_header a.header, identifier_of_header a.header, share_index_of_header a.header, a.payload, a.is_string)

module _ (t : List ℕ) (room : ℕ) where
  pub no_share_fault : (e : Refusal) → CanReadShare t room → IsShareFault t room e → ⊥
  no_share_fault (refusals.Payload e) can h =
      let same : bits_left_over (length can.payload) ≡ bits_left_over (length h.payload) = ap (λ (p : List ℕ). bits_left_over (length p)) (one_payload _ _ t can h) in
      absurd (omega (arith, can.holds.0, h.holds, same))
  no_share_fault refusals.NoRoom can h =
      let same : length (to_bytes (elements_of can.payload)) ≡ length (to_bytes (elements_of h.payload)) =
      ap (λ (p : List ℕ). length (to_bytes (elements_of p))) (one_payload _ _ t can h) in
      absurd (omega (arith, can.holds.1, h.holds.1, same))
  no_share_fault refusals.NotUtf8 can h = no_either_fault t refusals.NotUtf8 (either-from_payload _ t can) h
  no_share_fault (refusals.Text e) can h = no_either_fault t (refusals.Text e) (either-from_payload _ t can) h
  no_share_fault refusals.BadLengths can h = h
  no_share_fault refusals.InvalidCharacter can h = h
  no_share_fault refusals.MixedCase can h = h
  no_share_fault (refusals.Header e) can h = h
  no_share_fault (refusals.Encode e) can h = h
  no_share_fault (refusals.Derive e) can h = h
  no_share_fault (refusals.Split e) can h = h
  no_share_fault refusals.NoNearest can h = h

-- ---- strings that are made

sized : (code : Code) (h : Header) (payload : List Fe32) (text : List ℕ) → IsEncodedText code ms (header_elements h ++ payload) text → length text ≡ string_length code (length payload)
sized code h payload text is =
    let whole = length-encoded code ms (header_elements h ++ payload) text is in
    omega (arith, whole, length-append (header_elements h) payload, length-header h)

module _ (t : ℕ) (w : List ℕ) (x : ℕ) (given : List ℕ) (room : ℕ) where
  no_room-encoded : CanEncode t w x given room → LacksRoomForEncoded t w x given room → ⊥
  no_room-encoded can h =
      let size : length h.text ≡ string_length (code_of_byte_count (length given)) (length (to_fes given)) =
      sized (code_of_byte_count (length given)) h.is_text.header (to_fes given) h.text h.is_text.is_encoded in
      absurd (omega (arith, size, can.fits, h.lacks))

  pub no_encode_fault : (e : Refusal) → CanEncode t w x given room → IsEncodeStringFault t w x given room e → ⊥
  no_encode_fault (refusals.Header e) can h = absurd (let k = sym can.fine ∙ h in cc)
  no_encode_fault (refusals.Encode e) can h = absurd (let k = sym can.counted ∙ h.2 in cc)
  no_encode_fault refusals.NoRoom can h = no_room-encoded can h
  no_encode_fault refusals.NotUtf8 can h = h
  no_encode_fault (refusals.Text e) can h = h
  no_encode_fault refusals.BadLengths can h = h
  no_encode_fault refusals.InvalidCharacter can h = h
  no_encode_fault refusals.MixedCase can h = h
  no_encode_fault (refusals.Payload e) can h = h
  no_encode_fault (refusals.Derive e) can h = h
  no_encode_fault (refusals.Split e) can h = h
  no_encode_fault refusals.NoNearest can h = h

  no_room-payload : CanEncodePayload t w x given room → LacksRoomForPayload t w x given room → ⊥
  no_room-payload can h =
      let es : List Fe32 = elements_of given in
      let size : length h.text ≡ string_length (code_of_payload_count (length es)) (length es) = sized (code_of_payload_count (length es)) h.is_text.header es h.text h.is_text.is_encoded in
      let same : string_length (code_of_payload_count (length es)) (length es) ≡ string_length (code_of_payload_count (length given)) (length given) =
      ap (λ (n : ℕ). string_length (code_of_payload_count n) n) (length-map given element_of) in
      absurd (omega (arith, size, same, can.fits, h.lacks))

  pub no_encode_payload_fault : (e : Refusal) → CanEncodePayload t w x given room → IsEncodePayloadFault t w x given room e → ⊥
  no_encode_payload_fault (refusals.Header e) can h = absurd (let k = sym can.fine ∙ h in cc)
  no_encode_payload_fault (refusals.Encode e) can h = absurd (let k = sym can.counted ∙ h.3 in cc)
  no_encode_payload_fault refusals.NoRoom can h = no_room-payload can h
  no_encode_payload_fault refusals.InvalidCharacter can h = absurd (let k = sym can.is_payload.of_alphabet ∙ h.1 in cc)
  no_encode_payload_fault refusals.MixedCase can h = absurd (let k = sym can.is_payload.one_case ∙ h.1.1 in cc)
  no_encode_payload_fault refusals.NotUtf8 can h = h.1
  no_encode_payload_fault (refusals.Text e) can h = h.1
  no_encode_payload_fault refusals.BadLengths can h = h.1
  no_encode_payload_fault (refusals.Payload e) can h = h.1
  no_encode_payload_fault (refusals.Derive e) can h = h.1
  no_encode_payload_fault (refusals.Split e) can h = h.1
  no_encode_payload_fault refusals.NoNearest can h = h.1
