-- No reply is longer than its room, and the characters of codex32 strings are bytes.
use Rattle.std.specs.Prelude.{nat_le}
use Rattle.std.proofs.Common.{◌≡◌, ◌⊎◌, ℕ, suc, ◌+◌, ◌-◌, ◌≤◌, ◌<◌, ◌||◌, true, false, List, [], ◌∷◌, ◌++◌, length, map, drop, get_or, inl, inr, sym, ap, ◌∙◌, arith, length-append, refl, subst}
use Rattle.std.proofs.lemmas.Bool.{and_parts, false_from_ne_true, leb-true}
use Rattle.std.proofs.lemmas.List.{length-map, length-take}
use Rattle.bech32_bits.proofs.RoundTrip.{length-to_bytes}
use Rattle.bech32_checksum.specs.Code.{Code}
use Rattle.bech32_checksum.specs.Encoded.{char_of_element}
use Rattle.bech32_decode.proofs.Letters.{IsAscii-from_data}
use Rattle.bech32_gf.specs.Fe32.{element_of, elements_of}
use Rattle.bech32_gf.specs.declared.gf32.Fe32.{Fe32}
use Rattle.codex32.specs.Code.{code_of_length}
use Rattle.codex32.specs.Encode.{is_byte_count, is_long_byte_count}
use Rattle.codex32.specs.Share.{IsShareString, bytes_of_share}
use Rattle.codex32.specs.ShareParts.{code_of_data, payload_in}
use Rattle.codex32.specs.Strings.{IsString, is_within, is_within_either, is_within_long}
use Rattle.codex32.specs.declared.identifier.Identifier.{Identifier}
use Rattle.codex32.specs.declared.share.Share.{Share}
use Rattle.codex32.specs.declared.threshold.Threshold.{Threshold}
use Rattle.codex32.proofs.Digits.{or_true}
use Rattle.codex32.proofs.ShareParts.{code-long, code-short, fits}
use Rattle.c32_replies.specs.Reply.{header_words}

module _ (text hrp : List ℕ) (threshold : ℕ) (identifier : List ℕ) (share_index : ℕ) (payload checksum : List ℕ)
    (h : IsString text hrp threshold identifier share_index payload checksum) where
  -- the parts of a codex32 string
  pub payload-size : length payload ≤ 93
  payload-size =
      omega (
        arith,
        h.accepted.text_length,
        ap length h.accepted.grammar.split ∙ length-append hrp (49 ∷ (threshold ∷ (identifier ++ (share_index ∷ (payload ++ checksum))))),
        length-append identifier (share_index ∷ (payload ++ checksum)),
        length-append payload checksum,
      )

  pub share_index-small : share_index < 128
  share_index-small =
      let all = IsAscii-from_data (threshold ∷ (identifier ++ (share_index ∷ (payload ++ checksum)))) h.accepted.grammar.data_bytes in
      let one : get_or (identifier ++ (share_index ∷ (payload ++ checksum))) (length identifier) 0 < 128 = all (suc (length identifier)) in
      subst (λ n. n < 128) (at_end identifier share_index (payload ++ checksum)) one
    where
      at_end : (xs : List ℕ) (y : ℕ) (ys : List ℕ) → get_or (xs ++ (y ∷ ys)) (length xs) 0 ≡ y
      at_end [] y ys = refl
      at_end (x ∷ xs) y ys = at_end xs y ys

-- ---- strings of either length

-- a text that is one
pub string-size : (text : List ℕ) (t : Threshold) (i : Identifier) (x : Fe32) (payload : List ℕ) → IsShareString text t i x payload → length text ≤ 127
string-size text t i x payload h = (fits (length text) h.within).most

-- this many characters of a data part, with this many of the header and the checksum
payload-few : (n size code : ℕ) → size ≡ 3 + n → (((size ≤ 93) × (code ≡ 13)) ⊎ ((size ≤ 127) × (code ≡ 15))) → n - (6 + code) ≤ 103
payload-few n size code e (inl h) = omega (arith, h.0, h.1)
payload-few n size code e (inr h) = omega (arith, h.0, h.1)

code-sizes : (n : ℕ) → is_within_either n ≡ true → ((n ≤ 93) × (length (code_of_length n).generator ≡ 13)) ⊎ ((n ≤ 127) × (length (code_of_length n).generator ≡ 15))
code-sizes n h = elim (or_true (is_within n) (is_within_long n) h) [
  | inl e ↦
      let parts = and_parts (nat_le 48 n) (nat_le n 93) e in
      let most : n ≤ 93 = leb-true n 93 parts.1 in
      inl (most, ap (λ (c : Code). length c.generator) (code-short n most))
  | inr e ↦
      let parts = and_parts (nat_le 125 n) (nat_le n 127) e in
      let least : 125 ≤ n = leb-true 125 n parts.0 in
      inr (leb-true n 127 parts.1, ap (λ (c : Code). length c.generator) (code-long n least))
]

-- the payload of a data part
payload-of-data : (data_part : List ℕ) → is_within_either (3 + length data_part) ≡ true → length (payload_in data_part) ≤ 103
payload-of-data data_part h =
    let n = length data_part - (6 + length (code_of_data data_part).generator) in
    let few = payload-few (length data_part) (3 + length data_part) (length (code_of_data data_part).generator) refl (code-sizes (3 + length data_part) h) in
    omega (arith, few, length-take n (drop 6 data_part))

-- the bytes of a payload
pub bytes-few : (s : Share) → length (bytes_of_share s) ≤ 64
bytes-few s =
    let few : length s.payload.now ≤ 103 = subst (λ (p : List ℕ). length p ≤ 103) (sym s.payload_is) (payload-of-data s.data_part.now s.within) in
    omega (arith, few, length-to_bytes (elements_of s.payload.now), length-map s.payload.now element_of)

-- the words for a header
pub header_words-size : (t : Threshold) (i : Identifier) (x : Fe32) → length (header_words t i x) ≡ 9
header_words-size t i x =
    omega (arith, i.full, length-map i.elements char_of_element, length-append (map char_of_element i.elements) (32 ∷ char_of_element x ∷ 32 ∷ []))

-- ---- bytes

-- more than a string has
pub too-many : (n : ℕ) → 64 < n → (is_byte_count n || is_long_byte_count n) ≡ false
too-many n h =
    false_from_ne_true (is_byte_count n || is_long_byte_count n)
    (λ t. elim (or_true (is_byte_count n) (is_long_byte_count n) t) [
      | inl e ↦ let most : n ≤ 44 = leb-true n 44 (and_parts (nat_le 16 n) (nat_le n 44) e).1 in absurd (omega (arith, most, h))
      | inr e ↦ let most : n ≤ 64 = leb-true n 64 (and_parts (nat_le 63 n) (nat_le n 64) e).1 in absurd (omega (arith, most, h))
    ])
