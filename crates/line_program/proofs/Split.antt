-- The words of a line, one after another.
use Rattle.std.proofs.Common.{◌≡◌, ◌≢◌, ℕ, ◌+◌, ◌<◌, true, false, List, [], ◌∷◌, ◌++◌, length, take, drop, get_or, eqb, sym, ap, ◌∙◌, refl, arith, Option, Some, None, is_some, MatchOption, Bor, eq-eqb}
use Rattle.std.specs.List.{slice_range, slice_split}
use Rattle.std.proofs.lemmas.Bool.{ne_eqb, eqb-true}
use Rattle.std.proofs.lemmas.List.{take-append-drop, drop_more, get_or-take, length-take}
use Rattle.std.proofs.lemmas.List.Elements.{All-from_get_or}
use Rattle.std.proofs.lemmas.List.Splits.{slice_split_none, slice_split_at, length-slice_split}
use Rattle.std.proofs.lemmas.Str.Pattern.{IsSplitOnceResult, split_parts}
use Rattle.memchr.specs.Find.{IsFirstByte, is_byte}
use Rattle.line_program.specs.Words.{words}

-- a text without the byte is one part
no_byte : (c : ℕ) (bs : List ℕ) → ((i : ℕ) → i < length bs → get_or bs i 0 ≢ c) → slice_split (λ b. eqb b c) bs ≡ bs ∷ []
no_byte c bs h =
    slice_split_none (λ b. eqb b c) bs
    (All-from_get_or (λ b. eqb b c ≡ false) bs 0 (λ i l. ne_eqb (get_or bs i 0) c (h i l)))

-- a part ends at the first such byte
at_byte : (c : ℕ) (bs front back : List ℕ) → bs ≡ front ++ (c ∷ back) → ((i : ℕ) → i < length front → get_or front i 0 ≢ c)
    → slice_split (λ b. eqb b c) bs ≡ front ∷ slice_split (λ b. eqb b c) back
at_byte c bs front back e h =
    ap (slice_split (λ b. eqb b c)) e
    ∙ slice_split_at (λ b. eqb b c) front c back
    (All-from_get_or (λ b. eqb b c ≡ false) front 0 (λ i l. ne_eqb (get_or front i 0) c (h i l))) (eq-eqb c c refl)

-- the parts of a text, by what `split_once` returns
pub split-split_once : (c : ℕ) (bs : List ℕ) (r : Option (Bor (List ℕ) × Bor (List ℕ))) → c < 128 → IsSplitOnceResult c bs r
    → MatchOption r (slice_split (λ b. eqb b c) bs ≡ bs ∷ []) (λ x. slice_split (λ b. eqb b c) bs ≡ x.0.now ∷ slice_split (λ b. eqb b c) x.1.now)
split-split_once c bs r ascii h = cases r (split_parts c bs r h ascii) where
  cases : (s : Option (Bor (List ℕ) × Bor (List ℕ)))
      → MatchOption s ((i : ℕ) → i < length bs → get_or bs i 0 ≢ c) (λ x. (bs ≡ x.0.now ++ (c ∷ x.1.now)) × ((i : ℕ) → i < length x.0.now → get_or x.0.now i 0 ≢ c))
      → MatchOption s (slice_split (λ b. eqb b c) bs ≡ bs ∷ []) (λ x. slice_split (λ b. eqb b c) bs ≡ x.0.now ∷ slice_split (λ b. eqb b c) x.1.now)
  cases None p = no_byte c bs p
  cases (Some x) p = at_byte c bs x.0.now x.1.now p.0 p.1

-- the words of a text, by its first space
pub words-first_space : (bs : List ℕ) (r : Option ℕ) → IsFirstByte (is_byte 32) bs r
    → MatchOption r (words bs ≡ bs ∷ []) (λ n. words bs ≡ take n bs ∷ words (drop (n + 1) bs))
words-first_space bs None h = no_byte 32 bs (λ k l e. h k (omega arith) l (eq-eqb (get_or bs k 0) 32 e))
words-first_space bs (Some n) h =
    let within : n < length bs = h.0.high in
    let byte : get_or bs n 0 ≡ 32 = eqb-true (get_or bs n 0) 32 h.1 in
    let around : bs ≡ take n bs ++ (32 ∷ drop (n + 1) bs) =
    sym (take-append-drop n bs) ∙ ap (λ (t : List ℕ). take n bs ++ t) (drop_more bs n 0 within ∙ ap (λ (b : ℕ). b ∷ drop (n + 1) bs) byte) in
    at_byte 32 bs (take n bs) (drop (n + 1) bs) around
    (λ k l e.
    let below : k < n = omega (arith, l, length-take n bs) in
    h.0.before k (omega arith) below (eq-eqb (get_or bs k 0) 32 (sym (get_or-take n bs k 0 below) ∙ e)))

-- a range from the start on is the front
pub range_front : (bs : List ℕ) (n : ℕ) → slice_range bs 0 n ≡ take n bs
range_front bs n = ap (λ (k : ℕ). take k bs) (omega arith)

-- there is at least one word
pub words-some : (bs : List ℕ) → words bs ≡ [] → ⊥
words-some bs e = omega (arith, length-slice_split (λ b. eqb b 32) bs, ap length e)

-- no bytes
pub length-zero : (bs : List ℕ) → length bs ≡ 0 → bs ≡ []
length-zero [] e = refl
length-zero (b ∷ bs) e = absurd (omega arith)

-- a text without a space is one word
pub only-word : (bs : List ℕ) (r : Option ℕ) → IsFirstByte (is_byte 32) bs r → is_some r ≡ false → words bs ≡ bs ∷ []
only-word bs None h e = words-first_space bs None h
only-word bs (Some n) h e = cc

-- a text with a space is no single word
pub several-words : (bs word : List ℕ) (r : Option ℕ) → IsFirstByte (is_byte 32) bs r → is_some r ≡ true → words bs ≡ word ∷ [] → ⊥
several-words bs word None h e one = cc
several-words bs word (Some n) h e one =
    words-some (drop (n + 1) bs) (let more : take n bs ∷ words (drop (n + 1) bs) ≡ word ∷ [] = sym (words-first_space bs (Some n) h) ∙ one in cc)

-- an empty text is one empty word
pub empty-word : (bs word : List ℕ) → length bs ≡ 0 → words bs ≡ word ∷ [] → word ≡ []
empty-word [] word e one = cc
empty-word (b ∷ bs) word e one = absurd (omega arith)
