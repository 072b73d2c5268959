-- What is encoded is a string.
use Rattle.std.specs.Prelude.{◌&&◌, nat_le}
use Rattle.std.proofs.Common.{◌≡◌, ℕ, ◌+◌, ◌≤◌, Bool, List, ◌++◌, length, map, true, false, sym, ap, subst, ◌∙◌, append_assoc, length-append, arith}
use Rattle.std.proofs.lemmas.Bool.{and_from, and_parts, cond-false, cond-true, le-leb, leb-true, or_left, or_right}
use Rattle.bech32_gf.specs.Fe32.{elements_of, ops}
use Rattle.bech32_gf.specs.declared.gf32.Fe32.{Fe32}
use Rattle.bech32_poly.specs.Remainder.{IsRemainder}
use Rattle.bech32_checksum.specs.Code.{Code}
use Rattle.bech32_checksum.specs.Encoded.{IsEncodedText, char_of_element, spelled}
use Rattle.bech32_checksum.specs.TextPolynomial.{text_polynomial}
use Rattle.bech32_checksum.proofs.Uniqueness.{length-encoded}
use Rattle.bech32_decode.proofs.Spelling.{characters-elements}
use Rattle.codex32.specs.Code.{code_of_length, codex32, long_codex32}
use Rattle.codex32.specs.Encode.{IsEncodedPayload, code_of_payload_count, is_long_payload_count, is_payload_count}
use Rattle.codex32.specs.Header.{header_elements, identifier_of_header, share_index_of_header, threshold_of_header}
use Rattle.codex32.specs.Share.{IsShareString}
use Rattle.codex32.specs.ShareParts.{bits_left_over, ms}
use Rattle.codex32.specs.Strings.{is_within, is_within_either, is_within_long}
use Rattle.codex32.specs.declared.header.Header.{Header}
use Rattle.codex32.proofs.ShareParts.{code-long, code-short, length-header}
use Rattle.codex32.proofs.ShareStrings.{string_of_elements}

-- ---- numbers of elements

record IsWithin (least most n : ℕ) : Type 0 where
  pub least_is : least ≤ n
  pub most_is : n ≤ most

within-from : (least most n : ℕ) (left : Bool) → (nat_le least n && (nat_le n most && left)) ≡ true → IsWithin least most n
within-from least most n left h =
    let low = and_parts (nat_le least n) (nat_le n most && left) h in
    let high = and_parts (nat_le n most) left low.1 in
    record { least_is = leb-true least n low.0; most_is = leb-true n most high.0 }

short-within : (n : ℕ) → is_payload_count n ≡ true → IsWithin 26 71 n
short-within n h = within-from 26 71 n (nat_le (bits_left_over n) 4) h

long-within : (n : ℕ) → is_long_payload_count n ≡ true → IsWithin 101 103 n
long-within n h = within-from 101 103 n (nat_le (bits_left_over n) 4) h

short_code : (n : ℕ) → is_payload_count n ≡ true → code_of_payload_count n ≡ codex32
short_code n h = cond-true (is_payload_count n) codex32 long_codex32 h

long_code : (n : ℕ) → is_payload_count n ≡ false → code_of_payload_count n ≡ long_codex32
long_code n h = cond-false (is_payload_count n) codex32 long_codex32 h

-- ---- a string of elements

module _ (h : Header) (payload : List Fe32) (text : List ℕ) where
  abbrev IsString : Type 0
  IsString = (characters : List ℕ) × IsShareString text (threshold_of_header h) (identifier_of_header h) (share_index_of_header h) characters × (elements_of characters ≡ payload)

  encoded : (code : Code) → IsEncodedText code ms (header_elements h ++ payload) text → is_within_either (length text) ≡ true → code_of_length (length text) ≡ code → IsString
  encoded code is within same =
      let behind : (header_elements h ++ payload) ++ is.checksum ≡ header_elements h ++ (payload ++ is.checksum) = append_assoc (header_elements h) payload is.checksum in
      let target : IsRemainder ops code.generator (text_polynomial ms (header_elements h ++ (payload ++ is.checksum))) code.target =
      subst (λ (u : List Fe32). IsRemainder ops code.generator (text_polynomial ms u) code.target) behind is.is_checksum.has_target in (
        map char_of_element payload,
        string_of_elements text (threshold_of_header h) (identifier_of_header h) (share_index_of_header h) payload is.checksum (is.spelling ∙ ap (spelled ms) behind) within
            (is.is_checksum.size ∙ ap (λ (c : Code). length c.generator) (sym same))
            (subst (λ (c : Code). IsRemainder ops c.generator (text_polynomial ms (header_elements h ++ (payload ++ is.checksum))) c.target) (sym same) target) h.unshared,
        characters-elements payload,
      )

  sized : (code : Code) → IsEncodedText code ms (header_elements h ++ payload) text → length text ≡ 9 + length payload + length code.generator
  sized code is =
      let whole = length-encoded code ms (header_elements h ++ payload) text is in
      omega (arith, whole, length-append (header_elements h) payload, length-header h)

  pub encoded_string : is_payload_count (length payload) ≡ true → IsEncodedText codex32 ms (header_elements h ++ payload) text → IsString
  encoded_string counted is =
      let size : length text ≡ 9 + length payload + 13 = sized codex32 is in
      let few = short-within (length payload) counted in
      let low : 26 ≤ length payload = few.least_is in
      let high : length payload ≤ 71 = few.most_is in
      encoded codex32 is
      (or_left (is_within (length text)) (is_within_long (length text))
      (and_from (nat_le 48 (length text)) (nat_le (length text) 93) (le-leb 48 (length text) (omega (arith, size, low))) (le-leb (length text) 93 (omega (arith, size, high)))))
      (code-short (length text) (omega (arith, size, high)))

  pub encoded_long_string : is_long_payload_count (length payload) ≡ true → IsEncodedText long_codex32 ms (header_elements h ++ payload) text → IsString
  encoded_long_string counted is =
      let size : length text ≡ 9 + length payload + 15 = sized long_codex32 is in
      let few = long-within (length payload) counted in
      let low : 101 ≤ length payload = few.least_is in
      let high : length payload ≤ 103 = few.most_is in
      encoded long_codex32 is
      (or_right (is_within (length text)) (is_within_long (length text))
      (and_from (nat_le 125 (length text)) (nat_le (length text) 127) (le-leb 125 (length text) (omega (arith, size, low))) (le-leb (length text) 127 (omega (arith, size, high)))))
      (code-long (length text) (omega (arith, size, low)))

  -- the checksum is that of the number of elements
  pub by_count-short : is_payload_count (length payload) ≡ true → IsEncodedText codex32 ms (header_elements h ++ payload) text → IsEncodedPayload h payload text
  by_count-short counted is = subst (λ (c : Code). IsEncodedText c ms (header_elements h ++ payload) text) (sym (short_code (length payload) counted)) is

  pub by_count-long : is_payload_count (length payload) ≡ false → IsEncodedText long_codex32 ms (header_elements h ++ payload) text → IsEncodedPayload h payload text
  by_count-long counted is = subst (λ (c : Code). IsEncodedText c ms (header_elements h ++ payload) text) (sym (long_code (length payload) counted)) is
