-- The parts of strings of either length.
use Rattle.std.specs.Prelude.{◌/◌, nat_le}
use Rattle.std.proofs.Common.{◌≡◌, ℕ, ◌+◌, ◌-◌, ◌≤◌, true, List, [], ◌∷◌, ◌++◌, length, map, take, drop, inl, inr, sym, ap, subst, ◌∙◌, arith}
use Rattle.std.proofs.lemmas.Bool.{and_parts, cond-false, cond-true, false_from_ne_true, le-leb, leb-true}
use Rattle.std.proofs.lemmas.List.{length-append, length-drop, length-take-le, take-append-drop, take_at}
use Rattle.bech32_gf.specs.Alphabet.{is_data}
use Rattle.bech32_gf.specs.Fe32 as fe32
use Rattle.bech32_gf.specs.Fe32.{elements_of, ops}
use Rattle.bech32_gf.specs.declared.gf32.Fe32.{Fe32}
use Rattle.bech32_gf.specs.laws.Fe32Laws.{is_field}
use Rattle.bech32_poly.specs.Polynomial.{appended}
use Rattle.bech32_poly.specs.Remainder.{IsRemainder}
use Rattle.bech32_poly.proofs.Remainder.{remainder_unique}
use Rattle.bech32_checksum.specs.Code.{Code}
use Rattle.bech32_checksum.specs.TextPolynomial.{text_polynomial}
use Rattle.bech32_hrp.specs.Hrp.{lowered}
use Rattle.bech32_decode.proofs.Letters.{is_data-drop, is_data-take}
use Rattle.codex32.specs.Code.{code_of_length, codex32, long_codex32}
use Rattle.codex32.specs.Header.{header_elements}
use Rattle.codex32.specs.ShareParts.{HasTarget, code_of_data, ms, payload_in}
use Rattle.codex32.specs.Strings.{is_within, is_within_either, is_within_long}
use Rattle.codex32.specs.declared.header.Header.{Header}
use Rattle.codex32.proofs.Digits.{or_true}

-- ---- lengths

-- the length of a header's elements
pub length-header : (h : Header) → length (header_elements h) ≡ 6
length-header h = let full = h.identifier.full in let both = length-append h.identifier.elements (h.share_index ∷ []) in omega (arith, full, both)

pub take_front : {A : Type 0} (xs ys : List A) (n : ℕ) → length xs ≡ n → take n (xs ++ ys) ≡ xs
take_front xs ys n e = take_at xs ys n e

pub code-short : (n : ℕ) → n ≤ 93 → code_of_length n ≡ codex32
code-short n h = cond-true (nat_le n 93) codex32 long_codex32 (le-leb n 93 h)

pub code-long : (n : ℕ) → 125 ≤ n → code_of_length n ≡ long_codex32
code-long n h =
    cond-false (nat_le n 93) codex32 long_codex32 (false_from_ne_true (nat_le n 93) (λ t. let most : n ≤ 93 = leb-true n 93 t in absurd (omega (arith, most, h))))

-- a string of n characters has room for its checksum
pub record Fits (n : ℕ) (code : Code) : Type 0 where
  pub least : 48 ≤ n
  pub most : n ≤ 127
  pub not_longer : n ≤ code.code_length
  pub room : 9 + length code.generator ≤ n
  pub degree : length code.generator ≤ 15

pub fits : (n : ℕ) → is_within_either n ≡ true → Fits n (code_of_length n)
fits n h = elim (or_true (is_within n) (is_within_long n) h) [
  | inl e ↦
      let parts = and_parts (nat_le 48 n) (nat_le n 93) e in
      let least : 48 ≤ n = leb-true 48 n parts.0 in
      let most : n ≤ 93 = leb-true n 93 parts.1 in
      subst (Fits n) (sym (code-short n most))
      (record { least = least; most = omega (arith, most); not_longer = most; room = omega (arith, least); degree = omega arith })
  | inr e ↦
      let parts = and_parts (nat_le 125 n) (nat_le n 127) e in
      let least : 125 ≤ n = leb-true 125 n parts.0 in
      let most : n ≤ 127 = leb-true n 127 parts.1 in
      subst (Fits n) (sym (code-long n least))
      (record { least = omega (arith, least); most = most; not_longer = omega (arith, most); room = omega (arith, least); degree = omega arith })
]

-- ---- the parts of a data part

pub payload-data : (data_part : List ℕ) → is_data data_part ≡ true → is_data (payload_in data_part) ≡ true
payload-data data_part h =
    is_data-take (length data_part - (6 + length (code_of_data data_part).generator)) (drop 6 data_part) (is_data-drop 6 data_part h)

-- what stands behind the payload
abbrev pub checksum_in : List ℕ → List ℕ
checksum_in data_part = drop (length data_part - (6 + length (code_of_data data_part).generator)) (drop 6 data_part)

pub split-data : (data_part : List ℕ) → take 6 data_part ++ (payload_in data_part ++ checksum_in data_part) ≡ data_part
split-data data_part =
    ap (λ (u : List ℕ). take 6 data_part ++ u) (take-append-drop (length data_part - (6 + length (code_of_data data_part).generator)) (drop 6 data_part))
    ∙ take-append-drop 6 data_part

-- it is at most as long as that of 64 bytes
pub length-payload : (data_part : List ℕ) → is_within_either (3 + length data_part) ≡ true → length (payload_in data_part) ≤ 103
length-payload data_part h =
    let n : ℕ = 3 + length data_part in
    let degree : ℕ = length (code_of_data data_part).generator in
    let size : length (payload_in data_part) ≡ length data_part - (6 + degree) =
    length-take-le (length data_part - (6 + degree)) (drop 6 data_part) (omega (arith, length-drop 6 data_part)) in
    elim (or_true (is_within n) (is_within_long n) h) [
      | inl e ↦
          let parts = and_parts (nat_le 48 n) (nat_le n 93) e in
          let most : n ≤ 93 = leb-true n 93 parts.1 in
          omega (arith, size, most)
      | inr e ↦
          let parts = and_parts (nat_le 125 n) (nat_le n 127) e in
          let least : 125 ≤ n = leb-true 125 n parts.0 in
          let most : n ≤ 127 = leb-true n 127 parts.1 in
          let long : degree ≡ 15 = ap (λ (code : Code). length code.generator) (code-long n least) in
          omega (arith, size, most, long)
    ]

pub length-checksum : (data_part : List ℕ) → is_within_either (3 + length data_part) ≡ true → length (checksum_in data_part) ≡ length (code_of_data data_part).generator
length-checksum data_part h =
    let sized = fits (3 + length data_part) h in
    let degree : ℕ = length (code_of_data data_part).generator in
    let room : 9 + degree ≤ 3 + length data_part = sized.room in
    omega (arith, room, length-drop 6 data_part, length-drop (length data_part - (6 + degree)) (drop 6 data_part))

-- of a text with two characters before its separator
pub payload_of_text : (text hrp data_part : List ℕ) (d : ℕ) → text ≡ hrp ++ (49 ∷ data_part) → length hrp ≡ 2 → d ≡ length (code_of_length (length text)).generator
    → take (length text - d - 9) (drop 9 text) ≡ payload_in data_part
payload_of_text text (a ∷ b ∷ []) data_part d e two degree =
    let size : length text ≡ 3 + length data_part = let k = ap length e in omega (arith, k) in
    let same : d ≡ length (code_of_data data_part).generator = degree ∙ ap (λ (n : ℕ). length (code_of_length n).generator) size in
    let count : length text - d - 9 ≡ length data_part - (6 + length (code_of_data data_part).generator) = omega (arith, size, same) in
    ap (λ (k : ℕ). take k (drop 9 text)) count
    ∙ ap (λ (u : List ℕ). take (length data_part - (6 + length (code_of_data data_part).generator)) (drop 9 u)) e
payload_of_text text [] data_part d e two degree = absurd (omega (arith, two))
payload_of_text text (a ∷ []) data_part d e two degree = absurd (omega (arith, two))
payload_of_text text (a ∷ b ∷ c ∷ hrp) data_part d e two degree = absurd (omega (arith, two))

-- the polynomial of the human-readable part in either case
pub polynomial_of_ms : (hrp : List ℕ) (xs : List Fe32) → lowered hrp ≡ ms → text_polynomial hrp xs ≡ text_polynomial ms xs
polynomial_of_ms hrp xs e =
    ap (λ (l : List ℕ). appended (fe32.one ∷ []) ((map (λ b. fe32.element (b / 32)) l ++ (fe32.zero ∷ map fe32.element l)) ++ xs)) e

pub target_of_text : (text hrp data_part : List ℕ) → length text ≡ 3 + length data_part → lowered hrp ≡ ms
    → IsRemainder ops (code_of_length (length text)).generator (text_polynomial hrp (elements_of data_part)) (code_of_length (length text)).target → HasTarget data_part
target_of_text text hrp data_part size e h =
    let code : Code = code_of_data data_part in
    let read : IsRemainder ops code.generator (text_polynomial ms (elements_of data_part)) code.target =
    subst (λ (p : List Fe32). IsRemainder ops code.generator p code.target) (polynomial_of_ms hrp (elements_of data_part) e)
    (subst (λ (n : ℕ). IsRemainder ops (code_of_length n).generator (text_polynomial hrp (elements_of data_part)) (code_of_length n).target) size h) in
    sym (remainder_unique is_field code.generator (text_polynomial ms (elements_of data_part)) code.target read)
