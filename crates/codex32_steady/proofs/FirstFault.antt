-- The first character of a text in one case that may not stand in a human-readable part.
use Rattle.std.specs.List.{list_all}
use Rattle.std.specs.Str.{IsAscii, IsCharBoundary, IsUtf8, chars}
use Rattle.std.proofs.Math.Utf8.{encode}
use Rattle.std.proofs.Common.{◌≡◌, ℕ, ◌+◌, ◌<◌, ◌≤◌, true, false, List, [], ◌∷◌, ◌++◌, Option, Some, None, MatchOption, length, take, drop, get_or, eqb, leb, ltb, inl, inr, refl, sym, ap, ◌∙◌, arith, append-nil, append_assoc}
use Rattle.std.proofs.lemmas.Bool.{and_parts, cases_Bool, cond-false, cond-true, le-ltb, leb-true, lt-ltb, ne_eqb}
use Rattle.std.proofs.lemmas.List.{get_or-drop, length-drop, length-take-le, take-append-drop, take_all}
use Rattle.std.proofs.lemmas.Str.{IsCharBoundary-from_take, IsUtf8-drop, IsUtf8-from_ascii, byte_from_char, chars-append, chars-IsAscii, chars_past_char, encode_ascii}
use Rattle.std.proofs.lemmas.Str.Ascii.{IsAscii-cons, IsAscii-nil}
use Rattle.bech32_decode.proofs.Grammar.{none_first}
use Rattle.bech32_decode.proofs.OneCase.{one_case-front}
use Rattle.bech32_hrp.specs.Hrp.{IsHrp, bad_after, empty_fault, first_bad, first_of, hrp_refusal, is_graphic, is_mixed_case, length_fault}
use Rattle.bech32_hrp.specs.declared.Error.{Error}
use Rattle.bech32_hrp.specs.declared.Error.TheVariants.{Empty, TooLong}
use Rattle.bech32_hrp.proofs.HrpTexts.{hrp_refusal-none}

-- ---- graphic characters

ascii-from_graphic : (c : ℕ) → is_graphic c ≡ true → c < 128
ascii-from_graphic c g = let parts = and_parts (leb 33 c) (leb c 126) g in omega (arith, leb-true c 126 parts.1)

pub IsAscii-from_graphic : (bytes : List ℕ) → list_all is_graphic bytes ≡ true → IsAscii bytes
IsAscii-from_graphic [] h = IsAscii-nil
IsAscii-from_graphic (b ∷ bs) h =
    let parts = and_parts (is_graphic b) (list_all is_graphic bs) h in
    IsAscii-cons b bs (ascii-from_graphic b parts.0) (IsAscii-from_graphic bs parts.1)

pub boundary-graphic : (text : List ℕ) (n : ℕ) → IsUtf8 text → n ≤ length text → list_all is_graphic (take n text) ≡ true → IsCharBoundary text n
boundary-graphic text n u l g = IsCharBoundary-from_take text n u l (IsUtf8-from_ascii (take n text) (IsAscii-from_graphic (take n text) g))

pub all-graphic : (text : List ℕ) (n : ℕ) → length (drop n text) ≡ 0 → list_all is_graphic (take n text) ≡ true → list_all is_graphic text ≡ true
all-graphic text n none g = ap (list_all is_graphic) (sym (take_all n text (omega (arith, none, length-drop n text)))) ∙ g

-- the character behind them is not graphic
pub stranger-behind : (text rest : List ℕ) (n c : ℕ) → drop n text ≡ encode c ++ rest → (n < length text → is_graphic (get_or text n 0) ≡ false) → is_graphic c ≡ false
stranger-behind text rest n c e behind =
    elim (cases_Bool (is_graphic c)) [
      | inl of ↦
          let low : c < 128 = ascii-from_graphic c of in
          let there : drop n text ≡ c ∷ rest = e ∙ ap (λ (x : List ℕ). x ++ rest) (encode_ascii c low) in
          let size : length (drop n text) ≡ length (c ∷ rest) = ap length there in
          let same : n + 0 ≡ n = omega arith in
          let byte : get_or text n 0 ≡ c = ap (λ (i : ℕ). get_or text i 0) (sym same) ∙ sym (get_or-drop n text 0 0) ∙ byte_from_char (drop n text) rest c e low in
          sym (ap is_graphic byte) ∙ behind (omega (arith, size, length-drop n text))
      | inr none ↦ none
    ]

-- ---- the first fault

first_of-assoc : (o p q : Option Error) → first_of o (first_of p q) ≡ first_of (first_of o p) q
first_of-assoc None p q = refl
first_of-assoc (Some e) p q = refl

first_bad-append : (before xs ys : List ℕ) → first_bad before (xs ++ ys) ≡ first_of (first_bad before xs) (first_bad (before ++ xs) ys)
unfolding first_bad
first_bad-append before [] ys = ap (λ (b : List ℕ). first_bad b ys) (sym (append-nil before))
first_bad-append before (x ∷ xs) ys =
    ap (first_of (bad_after before x)) (first_bad-append (before ++ x ∷ []) xs ys)
    ∙ ap (λ (b : List ℕ). first_of (bad_after before x) (first_of (first_bad (before ++ x ∷ []) xs) (first_bad b ys))) (append_assoc before (x ∷ []) xs)
    ∙ first_of-assoc (bad_after before x) (first_bad (before ++ x ∷ []) xs) (first_bad (before ++ (x ∷ xs)) ys)

first_bad-front : (front : List ℕ) → length front ≤ 83 → list_all is_graphic front ≡ true → is_mixed_case front ≡ false → first_bad [] front ≡ None
unfolding first_bad
first_bad-front [] few g one = refl
first_bad-front (b ∷ bs) few g one =
    let front : List ℕ = b ∷ bs in
    let fine : hrp_refusal front ≡ None = hrp_refusal-none front record { not_empty = omega arith; not_long = few; graphic = g; one_case = one } in
    let first = none_first (empty_fault (length front)) (first_of (length_fault (length front)) (first_bad [] (chars front))) fine in
    let second = none_first (length_fault (length front)) (first_bad [] (chars front)) first.1 in
    sym (ap (first_bad []) (chars-IsAscii front (IsAscii-from_graphic front g))) ∙ second.1

first_bad-at : (front rest : List ℕ) (c : ℕ) (e : Error) → first_bad [] front ≡ None → bad_after front c ≡ Some e → first_bad [] (front ++ (c ∷ rest)) ≡ Some e
unfolding first_bad
first_bad-at front rest c e fine bad =
    first_bad-append [] front (c ∷ rest)
    ∙ ap (λ (o : Option Error). first_of o (first_bad front (c ∷ rest))) fine
    ∙ ap (λ (o : Option Error). first_of o (first_bad (front ++ c ∷ []) rest)) bad

-- of a text that is graphic up to a character
pub fault-at : (text rest : List ℕ) (n c : ℕ) (e : Error) → IsUtf8 text → length text ≤ 83 → is_mixed_case text ≡ false → n ≤ length text → list_all is_graphic (take n text) ≡ true
    → drop n text ≡ encode c ++ rest → bad_after (take n text) c ≡ Some e → first_bad [] (chars text) ≡ Some e
fault-at text rest n c e u short one l g is bad =
    let front : List ℕ = take n text in
    let whole : text ≡ front ++ drop n text = sym (take-append-drop n text) in
    let ascii = IsAscii-from_graphic front g in
    let behind : IsUtf8 (drop n text) = IsUtf8-drop text n u (boundary-graphic text n u l g) in
    let few : length front ≤ 83 = omega (arith, length-take-le n text l, l, short) in
    ap (first_bad [])
    (ap chars whole ∙ chars-append front (drop n text) (IsUtf8-from_ascii front ascii)
    ∙ ap (λ (x : List ℕ). x ++ chars (drop n text)) (chars-IsAscii front ascii)
    ∙ ap (λ (x : List ℕ). front ++ x) (chars_past_char (drop n text) rest c behind is))
    ∙ first_bad-at front (chars rest) c e (first_bad-front front few g (one_case-front text front (drop n text) whole one)) bad

-- ---- why a text is no human-readable part

abbrev refusal : List ℕ → ℕ → Option Error
refusal bytes n = first_of (empty_fault n) (first_of (length_fault n) (first_bad [] (chars bytes)))

pub refused_empty : (bytes : List ℕ) → length bytes ≡ 0 → hrp_refusal bytes ≡ Some Empty
refused_empty bytes e = ap (refusal bytes) e

some-there : (bytes : List ℕ) → 0 < length bytes → hrp_refusal bytes ≡ first_of (length_fault (length bytes)) (first_bad [] (chars bytes))
some-there bytes l =
    ap (λ (o : Option Error). first_of o (first_of (length_fault (length bytes)) (first_bad [] (chars bytes))))
    (cond-false (eqb (length bytes) 0) (Some Empty) None (ne_eqb (length bytes) 0 (λ e. omega (arith, l, e))))

pub refused_long : (bytes : List ℕ) → 83 < length bytes → hrp_refusal bytes ≡ Some (TooLong (length bytes))
refused_long bytes l =
    some-there bytes (omega (arith, l))
    ∙ ap (λ (o : Option Error). first_of o (first_bad [] (chars bytes))) (cond-true (ltb 83 (length bytes)) (Some (TooLong (length bytes))) None (lt-ltb 83 (length bytes) l))

pub part-from_characters : (bytes : List ℕ) (o : Option Error) → 0 < length bytes → length bytes ≤ 83 → is_mixed_case bytes ≡ false
    → MatchOption o (list_all is_graphic bytes ≡ true) (λ e. first_bad [] (chars bytes) ≡ Some e) → MatchOption o (IsHrp bytes) (λ e. hrp_refusal bytes ≡ Some e)
part-from_characters bytes None some few one g = record { not_empty = omega (arith, some); not_long = few; graphic = g; one_case = one }
part-from_characters bytes (Some e) some few one bad =
    some-there bytes some
    ∙ ap (λ (o : Option Error). first_of o (first_bad [] (chars bytes))) (cond-false (ltb 83 (length bytes)) (Some (TooLong (length bytes))) None (le-ltb 83 (length bytes) few))
    ∙ bad
