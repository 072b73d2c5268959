-- A text whose end is of the alphabet: one more block of it, one more byte, and what stands before.
use Rattle.std.proofs.Common.{◌≡◌, ℕ, ◌+◌, ◌-◌, ◌<◌, ◌≤◌, Bool, true, false, List, [], ◌∷◌, ◌++◌, ◌&&◌, length, take, drop, get_or, sym, ap, ◌∙◌, arith, inl, inr, length-append, append_assoc}
use Rattle.std.proofs.lemmas.Bool.{cases_Bool}
use Rattle.std.proofs.lemmas.List.{drop_more, get_or-take, length-take-le, take-append-drop}
use Rattle.std.proofs.lemmas.List.Folds.{drop_split, list_all-append}
use Rattle.std.proofs.lemmas.Str.{IsCharBoundary-from_drop, IsUtf8-from_ascii, encode_ascii}
use Rattle.std.proofs.Math.Seq.{get_or-append_seam}
use Rattle.std.proofs.Math.Utf8.{encode}
use Rattle.std.specs.List.{slice_range}
use Rattle.std.specs.Str.{IsCharBoundary}
use Rattle.bech32_gf.specs.Alphabet.{is_of_alphabet, is_data}
use Rattle.bech32_gf.proofs.Characters.{below-from_alphabet}
use Rattle.bech32_decode.proofs.Letters.{IsAscii-from_data, is_data-more}

pub is_data-block : (text : List ℕ) (from to : ℕ) → from ≤ to → is_data (slice_range text from to) ≡ true → is_data (drop to text) ≡ true → is_data (drop from text) ≡ true
is_data-block text from to l p q =
    ap is_data (drop_split text from to l) ∙ list_all-append is_of_alphabet (slice_range text from to) (drop to text)
    ∙ ap (λ (t : Bool). t && is_data (drop to text)) p ∙ q

pub is_data-byte : (text : List ℕ) (to : ℕ) → 0 < to → to ≤ length text → is_of_alphabet (get_or text (to - 1) 0) ≡ true → is_data (drop to text) ≡ true → is_data (drop (to - 1) text) ≡ true
is_data-byte text to some l p q =
    let same : to - 1 + 1 ≡ to = omega arith in
    ap is_data (drop_more text (to - 1) 0 (omega arith))
    ∙ is_data-more (get_or text (to - 1) 0) (drop (to - 1 + 1) text) p (ap (λ (n : ℕ). is_data (drop n text)) same ∙ q)

-- the text may be cut before such an end
pub boundary-data : (text : List ℕ) (start : ℕ) → start ≤ length text → is_data (drop start text) ≡ true → IsCharBoundary text start
boundary-data text start l h = IsCharBoundary-from_drop text start l (IsUtf8-from_ascii (drop start text) (IsAscii-from_data (drop start text) h))

-- the last byte of a text whose last character is ASCII
last-ascii : (text front : List ℕ) (n c : ℕ) → n ≤ length text → take n text ≡ front ++ encode c → c < 128 → (0 < n) × (get_or text (n - 1) 0 ≡ c)
last-ascii text front n c l e a =
    let ends : take n text ≡ front ++ c ∷ [] = e ∙ ap (λ (x : List ℕ). front ++ x) (encode_ascii c a) in
    let size : length (take n text) ≡ length front + 1 = ap length ends ∙ length-append front (c ∷ []) in
    let all : length (take n text) ≡ n = length-take-le n text l in
    let at : n - 1 ≡ length front = omega arith in (
      omega arith,
      sym (get_or-take n text (n - 1) 0 (omega arith)) ∙ ap (λ (x : List ℕ). get_or x (n - 1) 0) ends
          ∙ ap (λ (i : ℕ). get_or (front ++ c ∷ []) i 0) at ∙ get_or-append_seam front c [] 0,
    )

-- the character before an end that is as long as can be is not of the alphabet
pub stranger-before : (text front : List ℕ) (n c : ℕ) → n ≤ length text → take n text ≡ front ++ encode c
    → (0 < n → is_of_alphabet (get_or text (n - 1) 0) ≡ false) → is_of_alphabet c ≡ false
stranger-before text front n c l e before =
    elim (cases_Bool (is_of_alphabet c)) [
      | inl of ↦ let last = last-ascii text front n c l e (below-from_alphabet c of) in sym (ap is_of_alphabet last.1) ∙ before last.0
      | inr none ↦ none
    ]

-- the text before such an end, as a slice
pub front-slice : (text : List ℕ) (n : ℕ) → take n text ≡ slice_range text 0 n
front-slice text n = ap (λ (m : ℕ). take m text) (omega arith)

-- the text around the character before its end
pub whole-at : (text front : List ℕ) (n c : ℕ) → take n text ≡ front ++ encode c → text ≡ front ++ (encode c ++ drop n text)
whole-at text front n c e = sym (take-append-drop n text) ∙ ap (λ (x : List ℕ). x ++ drop n text) e ∙ append_assoc front (encode c) (drop n text)

-- the same where that character is ASCII
pub whole-ascii : (text front : List ℕ) (n c : ℕ) → take n text ≡ front ++ encode c → c < 128 → text ≡ front ++ c ∷ drop n text
whole-ascii text front n c e l = whole-at text front n c e ∙ ap (λ (x : List ℕ). front ++ (x ++ drop n text)) (encode_ascii c l)

-- a text with nothing before that end
pub all-data : (text : List ℕ) (n : ℕ) → n ≤ length text → length (take n text) ≡ 0 → is_data (drop n text) ≡ true → is_data text ≡ true
all-data text n l none h =
    let size : length (take n text) ≡ n = length-take-le n text l in
    let start : n ≡ 0 = omega arith in
    sym (ap (λ (m : ℕ). is_data (drop m text)) start) ∙ h
