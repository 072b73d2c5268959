-- Strings of elements, and why none is put into a buffer, as numbers.
use Rattle.std.proofs.Common.{◌≡◌, ◌<◌, ◌+◌, ◌∙◌, ◌++◌, ◌||◌, ℕ, List, Some, true, false, length, reverse, refl, sym, ap, subst, arith}
use Rattle.std.proofs.lemmas.List.{length-append, length-map}
use Rattle.bech32_bits.specs.Bits.{to_fes}
use Rattle.bech32_checksum.specs.Code.{Code}
use Rattle.bech32_checksum.specs.Encoded.{IsEncodedText, spelled}
use Rattle.bech32_checksum.specs.TextPolynomial.{text_polynomial}
use Rattle.bech32_checksum.proofs.Uniqueness.{length-encoded}
use Rattle.bech32_gf.specs.Fe32 as fe32
use Rattle.bech32_gf.specs.Fe32.{element_of, elements_of}
use Rattle.bech32_gf.specs.declared.gf32.Fe32.{Fe32}
use Rattle.bech32_numbers.specs.Refused.{IsNumberBy}
use Rattle.bech32_poly.specs.Division.{remainder_of}
use Rattle.bech32_poly.specs.Polynomial.{appended}
use Rattle.codex32.specs.Encode.{code_of_byte_count, code_of_payload_count, is_byte_count, is_long_byte_count, is_long_payload_count, is_payload_count}
use Rattle.codex32.specs.Header.{header_elements}
use Rattle.codex32.specs.declared.error.EncodeError.TheVariants as encode_errors
use Rattle.codex32.specs.declared.header.Header.{Header as Head}
use Rattle.codex32.proofs.ShareParts.{length-header}
use Rattle.codex32_calls.specs.Encode.{IsEncodeStringFault, IsEncodedOf, IsHeaderOf, header_number_fault}
use Rattle.codex32_calls.specs.Faults.{IsNumberOfCodex32}
use Rattle.codex32_calls.specs.Payload.{IsEncodePayloadFault, IsEncodedPayloadOf, IsPayload}
use Rattle.codex32_calls.specs.declared.propose.Kind.{Kind}
use Rattle.codex32_calls.specs.declared.refusal.Refusal.TheVariants as refusals
use Rattle.codex32.specs.Numbers.{number_of_header_error}
use Rattle.codex32_steady.specs.texts.Parts.{ms}
use Rattle.codex32_small.specs.Code.{code_of_kind}
use Rattle.codex32_small.proofs.Checksums.{checksum-from_remainder}

-- ---- the string of elements

pub string_of : Kind → List Fe32 → List ℕ
string_of kind elements =
    spelled ms (elements ++ reverse (remainder_of fe32.ops (code_of_kind kind).generator (appended (text_polynomial ms elements) (reverse (code_of_kind kind).target))))

pub string_of-is : (kind : Kind) (elements : List Fe32) → IsEncodedText (code_of_kind kind) ms elements (string_of kind elements)
unfolding string_of
string_of-is kind elements = record {
  checksum = reverse (remainder_of fe32.ops (code_of_kind kind).generator (appended (text_polynomial ms elements) (reverse (code_of_kind kind).target)));
  is_checksum = checksum-from_remainder kind elements _ refl;
  spelling = refl;
}

pub length-string : (code : Code) (h : Head) (payload : List Fe32) (text : List ℕ) → IsEncodedText code ms (header_elements h ++ payload) text
    → length text ≡ 9 + length payload + length code.generator
length-string code h payload text is =
    let whole = length-encoded code ms (header_elements h ++ payload) text is in
    omega (arith, whole, length-append (header_elements h) payload, length-header h)

-- ---- why none is put

module _ (t : ℕ) (w : List ℕ) (x : ℕ) (given : List ℕ) (room : ℕ) where
  pub header-refused : (n : ℕ) → IsNumberBy number_of_header_error (λ e. header_number_fault t w x ≡ Some e) n → IsNumberOfCodex32 (IsEncodeStringFault t w x given room) n
  header-refused n h = record { refusal = refusals.Header h.refusal; holds = h.holds; number = h.number }

  pub header-refused-payload : (n : ℕ) → IsNumberBy number_of_header_error (λ e. header_number_fault t w x ≡ Some e) n → IsNumberOfCodex32 (IsEncodePayloadFault t w x given room) n
  header-refused-payload n h = record { refusal = refusals.Header h.refusal; holds = h.holds; number = h.number }

  module _ (h : Head) (is : IsHeaderOf t w x h) where
    pub size-refused : (is_byte_count (length given) || is_long_byte_count (length given)) ≡ false → IsNumberOfCodex32 (IsEncodeStringFault t w x given room) 56
    size-refused none = record { refusal = refusals.Encode encode_errors.Size; holds = (is.fine, refl, none); number = refl }

    pub size-refused-payload : IsPayload given → (is_payload_count (length given) || is_long_payload_count (length given)) ≡ false
        → IsNumberOfCodex32 (IsEncodePayloadFault t w x given room) 56
    size-refused-payload payload none = record { refusal = refusals.Encode encode_errors.Size; holds = (is.fine, payload, refl, none); number = refl }

    module _ (kind : Kind) where
      -- the string of bytes
      pub encoded_of : (text : List ℕ) → (is_byte_count (length given) || is_long_byte_count (length given)) ≡ true → code_of_kind kind ≡ code_of_byte_count (length given)
          → IsEncodedText (code_of_kind kind) ms (header_elements h ++ to_fes given) text → IsEncodedOf t w x given text
      encoded_of text counted same encoded = record {
        header = h;
        header_is = is;
        counted = counted;
        is_encoded = subst (λ (code : Code). IsEncodedText code ms (header_elements h ++ to_fes given) text) same encoded;
      }

      pub room-refused : (is_byte_count (length given) || is_long_byte_count (length given)) ≡ true → code_of_kind kind ≡ code_of_byte_count (length given)
          → room < 9 + length (to_fes given) + length (code_of_kind kind).generator → IsNumberOfCodex32 (IsEncodeStringFault t w x given room) 92
      room-refused counted same lacks =
          let encoded = string_of-is kind (header_elements h ++ to_fes given) in
          record {
            refusal = refusals.NoRoom;
            holds = record {
              text = string_of kind (header_elements h ++ to_fes given);
              is_text = encoded_of (string_of kind (header_elements h ++ to_fes given)) counted same encoded;
              lacks = omega (arith, lacks, length-string (code_of_kind kind) h (to_fes given) (string_of kind (header_elements h ++ to_fes given)) encoded);
            };
            number = refl;
          }

      -- the string of characters
      same_count : code_of_kind kind ≡ code_of_payload_count (length given) → code_of_kind kind ≡ code_of_payload_count (length (elements_of given))
      same_count same = same ∙ ap code_of_payload_count (sym (length-map given element_of))

      pub encoded_payload_of : (text : List ℕ) → IsPayload given → (is_payload_count (length given) || is_long_payload_count (length given)) ≡ true
          → code_of_kind kind ≡ code_of_payload_count (length given) → IsEncodedText (code_of_kind kind) ms (header_elements h ++ elements_of given) text
          → IsEncodedPayloadOf t w x given text
      encoded_payload_of text payload counted same encoded = record {
        header = h;
        header_is = is;
        is_payload = payload;
        counted = counted;
        is_encoded = subst (λ (code : Code). IsEncodedText code ms (header_elements h ++ elements_of given) text) (same_count same) encoded;
      }

      pub room-refused-payload : IsPayload given → (is_payload_count (length given) || is_long_payload_count (length given)) ≡ true
          → code_of_kind kind ≡ code_of_payload_count (length given) → room < 9 + length given + length (code_of_kind kind).generator
          → IsNumberOfCodex32 (IsEncodePayloadFault t w x given room) 92
      room-refused-payload payload counted same lacks =
          let encoded = string_of-is kind (header_elements h ++ elements_of given) in
          record {
            refusal = refusals.NoRoom;
            holds = record {
              text = string_of kind (header_elements h ++ elements_of given);
              is_text = encoded_payload_of (string_of kind (header_elements h ++ elements_of given)) payload counted same encoded;
              lacks = omega (arith, lacks, length-map given element_of, length-string (code_of_kind kind) h (elements_of given) (string_of kind (header_elements h ++ elements_of given)) encoded);
            };
            number = refl;
          }
