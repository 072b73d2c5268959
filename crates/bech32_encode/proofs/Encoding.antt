-- The text that is written, and its length.
use Rattle.std.proofs.Common.{◌≡◌, ◌≢◌, ◌<◌, ◌≤◌, ◌∙◌, ◌+◌, ◌-◌, ◌^◌, ◌++◌, ℕ, true, List, [], ◌∷◌, Option, length, length-append, map, take, min, option_to_list, append-nil, refl, ap, subst, sym, arith, ⊎_elim}
use Rattle.std.proofs.Math.Nat.{min-eq_left, min-eq_right}
use Rattle.std.proofs.lemmas.Bool.{cases_lt, ltb-true}
use Rattle.std.proofs.lemmas.List.{drop_all, take_at}
use Rattle.std.proofs.lemmas.Str.{IsAscii-append}
use Rattle.std.proofs.lemmas.Str.Ascii.{IsAscii-nil, IsAscii-cons}
use Rattle.std.specs.List.{list_all}
use Rattle.std.specs.Prelude.{nat_lt}
use Rattle.std.specs.Char.{is_ascii}
use Rattle.std.specs.Str.{IsAscii}
use Rattle.bech32_gf.specs.Alphabet.{char_of}
use Rattle.bech32_gf.specs.laws.Below.{each_below-at}
use Rattle.bech32_gf.specs.declared.gf32.Fe32.{Fe32}
use Rattle.bech32_bits.specs.Bits.{to_fes, fes_count}
use Rattle.bech32_checksum.specs.Code.{Code}
use Rattle.bech32_encode.specs.Buffers.{IsPut}
use Rattle.bech32_checksum.specs.Encoded.{char_of_element, IsEncodedText}
use Rattle.bech32_hrp.specs.Hrp.{lowered}
use Rattle.bech32_hrp.proofs.HrpParts.{IsAscii-from_list_all, lowered-ascii}
use Rattle.bech32_bits.proofs.RoundTrip.{length-to_fes}
use Rattle.bech32_encode.specs.TextLength.{encoded_length_of}
use Rattle.bech32_checksum.proofs.Uniqueness.{length-encoded}

-- the same text of the same parts
pub IsEncodedText-same : (code : Code) (hrp hrp' : List ℕ) (fes fes' : List Fe32) (text text' : List ℕ) → hrp ≡ hrp' → fes ≡ fes' → text ≡ text'
    → IsEncodedText code hrp fes text → IsEncodedText code hrp' fes' text'
IsEncodedText-same code hrp hrp' fes fes' text text' e f t h =
    subst (λ x. IsEncodedText code x fes' text') e
    (subst (λ x. IsEncodedText code hrp x text') f (subst (λ x. IsEncodedText code hrp fes x) t h))

-- a text is ASCII
pub IsAscii-characters : (xs : List Fe32) → IsAscii (map char_of_element xs)
IsAscii-characters [] = IsAscii-nil
IsAscii-characters (x ∷ xs) =
    IsAscii-cons (char_of x.value) (map char_of_element xs) (ltb-true _ _ (each_below-at 32 (λ v. nat_lt (char_of v) 128) refl x.value x.in_field)) (IsAscii-characters xs)

pub IsAscii-encoded : (code : Code) (hrp : List ℕ) (fes : List Fe32) (text : List ℕ) → list_all is_ascii hrp ≡ true → IsEncodedText code hrp fes text → IsAscii text
IsAscii-encoded code hrp fes text h a =
    let all : List Fe32 = fes ++ a.checksum in
    subst IsAscii (sym a.spelling)
    (IsAscii-append (lowered hrp) (49 ∷ map char_of_element all) (IsAscii-from_list_all (lowered hrp) (lowered-ascii hrp h))
    (IsAscii-cons 49 (map char_of_element all) (omega arith) (IsAscii-characters all)))

-- bytes that fill a buffer, before any others
pub filled_buffer : (text old new behind : List ℕ) (count : ℕ) → IsPut text old new count → length old ≤ length text → take (length old) (new ++ behind) ≡ text
filled_buffer text old new behind count put full =
    let fits = put.fits in
    let same : length text ≡ length old = omega arith in
    let whole : new ≡ text = put.buffer ∙ ap (λ (l : List ℕ). text ++ l) (drop_all (length text) old full) ∙ append-nil text in
    ap (λ (l : List ℕ). take (length old) (l ++ behind)) whole ∙ take_at text behind (length old) same

-- a length that is not the greatest is the whole one
min-below : (n m : ℕ) → min n m ≢ m → min n m ≡ n
min-below n m h = ⊎_elim (λ (less : n < m). min-eq_left {n = n} {m = m} (omega arith)) (λ (more : m ≤ n). absurd (h (min-eq_right {n = m} {m = n} more))) (cases_lt n m)

module _ (code : Code) (d : ℕ) (degree_law : length code.generator ≡ d) where
  -- the length that is tested
  pub text_length-is : (hrp bytes : List ℕ) → min (length hrp + 1 + fes_count 0 (length bytes) + d) (2 ^ 64 - 1) ≡ encoded_length_of code hrp (to_fes bytes)
  text_length-is hrp bytes =
      ap (λ k. min (length hrp + 1 + k + d) (2 ^ 64 - 1)) (sym (length-to_fes bytes))
      ∙ ap (λ k. min (length hrp + 1 + length (to_fes bytes) + k) (2 ^ 64 - 1)) (sym degree_law)

  -- a buffer of that length is filled
  pub text_fills : (hrp bytes : List ℕ) (version : Option Fe32) (fes : List Fe32) (text old new behind : List ℕ) (count size : ℕ)
      → fes ≡ to_fes bytes → IsEncodedText code hrp (option_to_list version ++ fes) text
      → size ≡ min (length hrp + 1 + (length (option_to_list version) + fes_count 0 (length bytes)) + d) (2 ^ 64 - 1) → size ≢ 2 ^ 64 - 1
      → length old ≡ size → (length text ≤ length old → IsPut text old new count) → take size (new ++ behind) ≡ text
  text_fills hrp bytes version fes text old new behind count size are is sized less room put =
      let v : List Fe32 = option_to_list version in
      let whole : size ≡ length hrp + 1 + (length v + fes_count 0 (length bytes)) + d =
      sized ∙ min-below _ _ (λ e. less (sized ∙ e)) in
      let given : length fes ≡ fes_count 0 (length bytes) = ap length are ∙ length-to_fes bytes in
      let both : length (v ++ fes) ≡ length v + length fes = length-append v fes in
      let degree : length code.generator ≡ d = degree_law in
      let long : length text ≡ length hrp + 1 + length (v ++ fes) + length code.generator = length-encoded code hrp (v ++ fes) text is in
      let same : length text ≡ length old = omega arith in
      ap (λ (k : ℕ). take k (new ++ behind)) (sym room) ∙ filled_buffer text old new behind count (put (omega arith)) (omega arith)
