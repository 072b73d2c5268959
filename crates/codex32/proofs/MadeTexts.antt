-- The strings that a split is made of.
use Rattle.std.specs.Prelude.{◌||◌, ◌&&◌, nat_le}
use Rattle.std.specs.Str.{IsUtf8}
use Rattle.std.proofs.Common.{◌≡◌, ℕ, ◌+◌, ◌≤◌, Bool, true, false, List, ◌++◌, length, inl, inr, sym, ap, subst, ◌∙◌, length-append, arith}
use Rattle.std.proofs.lemmas.Bool.{and_from, and_parts, cases_Bool, cond-false, cond-true, false_from_ne_true, le-leb, leb-true, or_left, or_right}
use Rattle.std.proofs.lemmas.Str.{IsUtf8-from_ascii}
use Rattle.bech32_bits.specs.Bits.{to_fes}
use Rattle.bech32_bits.proofs.RoundTrip.{length-to_fes}
use Rattle.bech32_gf.specs.Fe32.{elements_of}
use Rattle.bech32_gf.specs.declared.gf32.Fe32.{Fe32}
use Rattle.bech32_checksum.specs.Code.{Code}
use Rattle.bech32_checksum.specs.Encoded.{IsEncodedText}
use Rattle.bech32_checksum.proofs.Uniqueness.{length-encoded, lower_encoded}
use Rattle.bech32_correction.proofs.Ascii.{ascii_text}
use Rattle.bech32_hrp.specs.Hrp.{lowered}
use Rattle.codex32.specs.Code.{codex32, long_codex32}
use Rattle.codex32.specs.Encode.{IsEncodedPayload, code_of_byte_count, code_of_payload_count, is_byte_count, is_long_byte_count, is_long_payload_count, is_payload_count}
use Rattle.codex32.specs.Header.{header_elements, identifier_of_header, share_index_of_header, threshold_of_header}
use Rattle.codex32.specs.HeaderParts.{secret_index}
use Rattle.codex32.specs.Share.{IsEither, IsShareString}
use Rattle.codex32.specs.ShareParts.{bits_left_over, ms}
use Rattle.codex32.specs.Split.{IsHeaderOfParts, IsOwnString, IsPayloadString, payload_count, string_size, text_size}
use Rattle.codex32.specs.declared.header.Header.{Header}
use Rattle.codex32.specs.declared.identifier.Identifier.{Identifier}
use Rattle.codex32.specs.declared.threshold.Threshold.{Threshold}
use Rattle.codex32.proofs.Digits.{or_true}
use Rattle.codex32.proofs.EncodedStrings.{encoded_long_string, encoded_string}
use Rattle.codex32.proofs.ShareParts.{length-header}

-- ---- numbers of bytes, and of characters

-- there are strings of n bytes
pub record Sized (n : ℕ) : Type 0 where
  pub most : n ≤ 64
  pub counted : is_payload_count (payload_count n) || is_long_payload_count (payload_count n) ≡ true
  pub same_code : code_of_payload_count (payload_count n) ≡ code_of_byte_count n

short : (n : ℕ) → is_byte_count n ≡ true → (16 ≤ n) × (n ≤ 44)
short n h = let parts = and_parts (nat_le 16 n) (nat_le n 44) h in (leb-true 16 n parts.0, leb-true n 44 parts.1)

long : (n : ℕ) → is_long_byte_count n ≡ true → (63 ≤ n) × (n ≤ 64)
long n h = let parts = and_parts (nat_le 63 n) (nat_le n 64) h in (leb-true 63 n parts.0, leb-true n 64 parts.1)

-- at most four bits are left over
left_over : (n : ℕ) → bits_left_over (payload_count n) ≤ 4
left_over n = omega arith

short_payload : (n : ℕ) → is_byte_count n ≡ true → is_payload_count (payload_count n) ≡ true
short_payload n h =
    let (least, most) = short n h in
    let low : 26 ≤ payload_count n = omega (arith, least) in
    let high : payload_count n ≤ 71 = omega (arith, most) in
    and_from (nat_le 26 (payload_count n)) (nat_le (payload_count n) 71 && nat_le (bits_left_over (payload_count n)) 4) (le-leb 26 (payload_count n) low)
    (and_from (nat_le (payload_count n) 71) (nat_le (bits_left_over (payload_count n)) 4) (le-leb (payload_count n) 71 high) (le-leb (bits_left_over (payload_count n)) 4 (left_over n)))

long_payload : (n : ℕ) → is_long_byte_count n ≡ true → is_long_payload_count (payload_count n) ≡ true
long_payload n h =
    let (least, most) = long n h in
    let low : 101 ≤ payload_count n = omega (arith, least) in
    let high : payload_count n ≤ 103 = omega (arith, most) in
    and_from (nat_le 101 (payload_count n)) (nat_le (payload_count n) 103 && nat_le (bits_left_over (payload_count n)) 4) (le-leb 101 (payload_count n) low)
    (and_from (nat_le (payload_count n) 103) (nat_le (bits_left_over (payload_count n)) 4) (le-leb (payload_count n) 103 high) (le-leb (bits_left_over (payload_count n)) 4 (left_over n)))

not_short : (n : ℕ) → is_long_byte_count n ≡ true → is_byte_count n ≡ false
not_short n h = false_from_ne_true (is_byte_count n) (λ t. let a = (long n h).0 in let b = (short n t).1 in absurd (omega (arith, a, b)))

not_short_payload : (n : ℕ) → is_long_byte_count n ≡ true → is_payload_count (payload_count n) ≡ false
not_short_payload n h =
    false_from_ne_true (is_payload_count (payload_count n)) (λ t.
    let a = (long n h).0 in
    let parts = and_parts (nat_le 26 (payload_count n)) (nat_le (payload_count n) 71 && nat_le (bits_left_over (payload_count n)) 4) t in
    let b : payload_count n ≤ 71 = leb-true (payload_count n) 71 (and_parts (nat_le (payload_count n) 71) (nat_le (bits_left_over (payload_count n)) 4) parts.1).0 in
    absurd (omega (arith, a, b)))

pub sized : (n : ℕ) → is_byte_count n || is_long_byte_count n ≡ true → Sized n
sized n h = elim (or_true (is_byte_count n) (is_long_byte_count n) h) [
  | inl e ↦ record {
    most = let most = (short n e).1 in omega (arith, most);
    counted = or_left (is_payload_count (payload_count n)) (is_long_payload_count (payload_count n)) (short_payload n e);
    same_code = cond-true (is_payload_count (payload_count n)) codex32 long_codex32 (short_payload n e) ∙ sym (cond-true (is_byte_count n) codex32 long_codex32 e);
  }
  | inr e ↦ record {
    most = (long n e).1;
    counted = or_right (is_payload_count (payload_count n)) (is_long_payload_count (payload_count n)) (long_payload n e);
    same_code = cond-false (is_payload_count (payload_count n)) codex32 long_codex32 (not_short_payload n e) ∙ sym (cond-false (is_byte_count n) codex32 long_codex32 (not_short n e));
  }
]

-- the string of the payload is as long as that of the bytes
pub same_size : (n : ℕ) → is_byte_count n || is_long_byte_count n ≡ true → string_size (payload_count n) ≡ text_size n
same_size n h = ap (λ (c : Code). 9 + payload_count n + length c.generator) (sized n h).same_code

-- ---- the strings

-- the text is a string of these parts, of n characters, in lower case
pub record IsMade (t : Threshold) (i : Identifier) (x : Fe32) (payload : List Fe32) (n : ℕ) (text : List ℕ) : Type 0 where
  pub characters : List ℕ
  pub string : IsShareString text t i x characters
  pub elements : elements_of characters ≡ payload
  pub size : length text ≡ n
  pub low : lowered text ≡ text

pub either-from_made : (t : Threshold) (i : Identifier) (x : Fe32) (payload : List Fe32) (n : ℕ) (text : List ℕ) → IsMade t i x payload n text → IsEither text
either-from_made t i x payload n text made = (t, i, x, made.characters, made.string)

-- with the parts of a header
of_header : (t : Threshold) (i : Identifier) (x : Fe32) (h : Header) (text characters : List ℕ) → IsHeaderOfParts t i x h
    → IsShareString text (threshold_of_header h) (identifier_of_header h) (share_index_of_header h) characters → IsShareString text t i x characters
of_header t i x h text characters is string =
    subst (λ (u : Threshold). IsShareString text u i x characters) is.threshold_is
    (subst (λ (j : Identifier). IsShareString text (threshold_of_header h) j x characters) is.identifier_is
    (subst (λ (y : Fe32). IsShareString text (threshold_of_header h) (identifier_of_header h) y characters) is.share_index_is string))

payload_made : (t : Threshold) (i : Identifier) (x : Fe32) (h : Header) (payload : List Fe32) (text : List ℕ) → IsHeaderOfParts t i x h
    → is_payload_count (length payload) || is_long_payload_count (length payload) ≡ true → IsEncodedPayload h payload text → IsMade t i x payload (string_size (length payload)) text
payload_made t i x h payload text is counted encoded =
    let m : ℕ = length payload in
    let size : length text ≡ string_size m =
    let whole = length-encoded (code_of_payload_count m) ms (header_elements h ++ payload) text encoded in omega (arith, whole, length-append (header_elements h) payload, length-header h) in
    let made : (characters : List ℕ) × IsShareString text (threshold_of_header h) (identifier_of_header h) (share_index_of_header h) characters × (elements_of characters ≡ payload) =
    elim (cases_Bool (is_payload_count m)) [
      | inl e ↦ encoded_string h payload text e (subst (λ (c : Code). IsEncodedText c ms (header_elements h ++ payload) text) (cond-true (is_payload_count m) codex32 long_codex32 e) encoded)
      | inr e ↦
          encoded_long_string h payload text (let k = ap (λ (b : Bool). b || is_long_payload_count m) e in sym k ∙ counted)
          (subst (λ (c : Code). IsEncodedText c ms (header_elements h ++ payload) text) (cond-false (is_payload_count m) codex32 long_codex32 e) encoded)
    ] in
    record {
      characters = made.0;
      string = of_header t i x h text made.0 is made.1;
      elements = made.2;
      size = size;
      low = lower_encoded (code_of_payload_count m) ms (header_elements h ++ payload) text encoded;
    }

pub made-drawn : (t : Threshold) (i : Identifier) (x : Fe32) (payload : List Fe32) (text : List ℕ) → is_payload_count (length payload) || is_long_payload_count (length payload) ≡ true
    → IsPayloadString t i x payload text → IsMade t i x payload (string_size (length payload)) text
made-drawn t i x payload text counted is = payload_made t i x is.header payload text is.header_is counted is.is_encoded

-- the secret's own string is that of its elements
pub made-own : (t : Threshold) (i : Identifier) (secret text : List ℕ) → is_byte_count (length secret) || is_long_byte_count (length secret) ≡ true
    → IsOwnString t i secret text → IsMade t i secret_index (to_fes secret) (text_size (length secret)) text
made-own t i secret text counted is =
    let n : ℕ = length secret in
    let count : length (to_fes secret) ≡ payload_count n = length-to_fes secret in
    let right = sized n counted in
    let code : code_of_payload_count (length (to_fes secret)) ≡ code_of_byte_count n = ap code_of_payload_count count ∙ right.same_code in
    let encoded : IsEncodedPayload is.header (to_fes secret) text = subst (λ (c : Code). IsEncodedText c ms (header_elements is.header ++ to_fes secret) text) (sym code) is.is_encoded in
    let counts : is_payload_count (length (to_fes secret)) || is_long_payload_count (length (to_fes secret)) ≡ true = ap (λ (m : ℕ). is_payload_count m || is_long_payload_count m) count ∙ right.counted in
    subst (λ (k : ℕ). IsMade t i secret_index (to_fes secret) k text) (ap string_size count ∙ same_size n counted) (payload_made t i secret_index is.header (to_fes secret) text is.header_is counts encoded)

-- what is made is UTF-8
pub utf8_of_either : (text : List ℕ) → IsEither text → IsUtf8 text
utf8_of_either text (t, i, x, characters, is) = IsUtf8-from_ascii text (ascii_text text is.hrp (is.front ++ (characters ++ is.checksum)) is.accepted.grammar)
