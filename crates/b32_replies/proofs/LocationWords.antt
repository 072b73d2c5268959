-- Locations in decimal.
use Rattle.std.proofs.Common.{◌≡◌, ◌≢◌, ◌⊎◌, ℕ, zero, suc, ◌+◌, ◌*◌, ◌/◌, ◌%◌, ◌<◌, ◌≤◌, List, [], ◌∷◌, ◌++◌, ◌∙◌, length, length-append, append_assoc, ap, sym, arith, inl, inr, ⊎_elim, refl, take, drop, get_or}
use Rattle.std.proofs.lemmas.Bool.{cases_lt}
use Rattle.std.proofs.lemmas.List.{take_all, take_more, drop_more, take-append-drop}
use Rattle.std.proofs.lemmas.Fmt.{decimal_digit, decimal_step, decimal_injective}
use Rattle.std.specs.Fmt.{decimal}

-- a number from 100 on: what stands before its last two digits, and these
pub last_two : (n : ℕ) → 100 ≤ n → n ≤ 1022 → decimal n ≡ decimal (n / 100) ++ ((48 + n / 10 % 10) ∷ (48 + n % 10) ∷ [])
last_two n some few =
    let high : n / 10 / 10 ≡ n / 100 = omega arith in
    decimal_step n (omega arith) (omega arith)
    ∙ ap (λ (t : List ℕ). t ++ ((48 + n % 10) ∷ [])) (decimal_step (n / 10) (omega arith) (omega arith))
    ∙ append_assoc (decimal (n / 10 / 10)) ((48 + n / 10 % 10) ∷ []) ((48 + n % 10) ∷ [])
    ∙ ap (λ (k : ℕ). decimal k ++ ((48 + n / 10 % 10) ∷ (48 + n % 10) ∷ [])) high

-- one more digit of a number that is not zero
pub more_digits : (m d : ℕ) → 0 < m → m ≤ 102 → d < 10 → decimal (10 * m + d) ≡ decimal m ++ ((48 + d) ∷ [])
more_digits m d some few less =
    let n = 10 * m + d in
    let high : n / 10 ≡ m = omega arith in
    let low : n % 10 ≡ d = omega arith in
    decimal_step n (omega arith) (omega arith)
    ∙ ap (λ (k : ℕ). decimal k ++ ((48 + n % 10) ∷ [])) high
    ∙ ap (λ (k : ℕ). decimal m ++ ((48 + k) ∷ [])) low

-- a list with one item more behind it, split
split_last : (xs ys back : List ℕ) (d b : ℕ) → xs ++ (d ∷ []) ≡ ys ++ (b ∷ back)
    → ((xs ≡ ys) × (d ≡ b)) ⊎ ((rest : List ℕ) × (xs ≡ ys ++ (b ∷ rest)))
split_last [] [] back d b e = inl (refl, cc)
split_last [] (y ∷ ys) back d b e = let size : length (ys ++ (b ∷ back)) ≡ 0 = (let same : ys ++ (b ∷ back) ≡ [] = cc in ap length same) in absurd (omega (arith, size, length-append ys (b ∷ back)))
split_last (x ∷ xs) [] back d b e = let same : x ≡ b = cc in inr (xs, ap (λ (c : ℕ). c ∷ xs) same)
split_last (x ∷ xs) (y ∷ ys) back d b e =
    let first : x ≡ y = cc in
    let rest : xs ++ (d ∷ []) ≡ ys ++ (b ∷ back) = cc in
    elim (split_last xs ys back d b rest) [
      | inl h ↦ let same : xs ≡ ys = h.0 in inl (cc, h.1)
      | inr h ↦ let same : xs ≡ ys ++ (b ∷ h.0) = h.1 in inr (h.0, cc)
    ]

-- where digits stand before a byte of a number, they are those of a number that is not zero, and the byte is a digit
abbrev pub IsNext : ℕ → ℕ → ℕ → Type 0
IsNext n m b = (0 < m) × (10 * m ≤ n) × (48 ≤ b) × (b ≤ 57)

some_digits : (n : ℕ) → n ≤ 1029 → 0 < length (decimal n)
some_digits n few =
    ⊎_elim
    (λ (one : n < 10). omega (arith, ap length (decimal_digit n one)))
    (λ (more : 10 ≤ n). omega (arith, ap length (decimal_step n more (omega arith)), length-append (decimal (n / 10)) ((48 + n % 10) ∷ [])))
    (cases_lt n 10)

next_digit : (k n m : ℕ) (back : List ℕ) (b : ℕ) → n ≤ k → n ≤ 1022 → m ≤ 1029 → decimal n ≡ decimal m ++ (b ∷ back) → IsNext n m b
next_digit zero n m back b below few small e =
    let one : n < 10 = omega arith in
    absurd (omega (arith, some_digits m small, ap length (sym (decimal_digit n one) ∙ e), length-append (decimal m) (b ∷ back)))
next_digit (suc k) n m back b below few small e =
    ⊎_elim
    (λ (one : n < 10). absurd (omega (arith, some_digits m small, ap length (sym (decimal_digit n one) ∙ e), length-append (decimal m) (b ∷ back))))
    (λ (more : 10 ≤ n). elim (split_last (decimal (n / 10)) (decimal m) back (48 + n % 10) b (sym (decimal_step n more (omega arith)) ∙ e)) [
      | inl s ↦
          let same : n / 10 ≡ m = decimal_injective (n / 10) m (omega arith) (omega arith) s.0 in
          let digit : 48 + n % 10 ≡ b = s.1 in
          (omega arith, omega arith, omega arith, omega arith)
      | inr s ↦
          let inner : IsNext (n / 10) m b = next_digit k (n / 10) m s.0 b (omega arith) (omega arith) small s.1 in
          let some : 0 < m = inner.0 in
          let less : 10 * m ≤ n / 10 = inner.1 in
          (some, omega arith, inner.2, inner.3)
    ])
    (cases_lt n 10)

pub next_digit_of : (word : List ℕ) (n m : ℕ) (back : List ℕ) (b : ℕ) → n ≤ 1022 → m ≤ 1029 → word ≡ decimal m ++ (b ∷ back) → word ≡ decimal n → IsNext n m b
next_digit_of word n m back b few small is e = next_digit n n m back b (omega arith) few small (sym e ∙ is)

one_digit : (n b : ℕ) (others : List ℕ) → n < 10 → decimal n ≡ b ∷ others → (48 ≤ b) × (b ≤ 57)
one_digit n b others less e =
    let same : (48 + n) ∷ [] ≡ b ∷ others = sym (decimal_digit n less) ∙ e in
    let digit : 48 + n ≡ b = cc in
    (omega arith, omega arith)

first_digit : (k n b : ℕ) (others : List ℕ) → n ≤ k → n ≤ 1022 → decimal n ≡ b ∷ others → (48 ≤ b) × (b ≤ 57)
first_digit zero n b others below few e = one_digit n b others (omega arith) e
first_digit (suc k) n b others below few e =
    ⊎_elim
    (λ (one : n < 10). one_digit n b others one e)
    (λ (more : 10 ≤ n). elim (split_last (decimal (n / 10)) [] others (48 + n % 10) b (sym (decimal_step n more (omega arith)) ∙ e)) [
      | inl s ↦ let digit : 48 + n % 10 ≡ b = s.1 in (omega arith, omega arith)
      | inr s ↦ first_digit k (n / 10) b s.0 (omega arith) (omega arith) s.1
    ])
    (cases_lt n 10)

-- ---- a word that is read byte by byte

-- it has a byte
pub no_byte : (word : List ℕ) (n : ℕ) → length word ≡ 0 → n ≤ 1022 → word ≢ decimal n
no_byte word n none few e = absurd (omega (arith, ap length e, some_digits n (omega arith)))

-- the first is a digit
pub no_digit : (word others : List ℕ) (first n : ℕ) → word ≡ first ∷ others → (first < 48) ⊎ (57 < first) → n ≤ 1022 → word ≢ decimal n
no_digit word others first n is off few e =
    let (low, high) = first_digit n n first others (omega arith) few (sym e ∙ is) in
    absurd (⊎_elim (λ (below : first < 48). omega (arith, low, below)) (λ (above : 57 < first). omega (arith, high, above)) off)

-- which is read
pub first_byte : (word others : List ℕ) (first d : ℕ) → word ≡ first ∷ others → d < 10 → first ≡ 48 + d → take 1 word ≡ decimal d
first_byte word others first d is less digit =
    ap (take 1) is ∙ ap (λ (b : ℕ). b ∷ []) digit ∙ sym (decimal_digit d less)

taken : (first i : ℕ) (others : List ℕ) → take (1 + i) (first ∷ others) ≡ first ∷ take i others
taken first i others = let same : 1 + i ≡ suc i = omega arith in ap (λ (n : ℕ). take n (first ∷ others)) same

-- the bytes before another one, and that one
next_byte : (word others : List ℕ) (first i : ℕ) → word ≡ first ∷ others → i < length others → word ≡ take (1 + i) word ++ (get_or others i 0 ∷ drop (i + 1) others)
next_byte word others first i is more =
    let split : others ≡ take i others ++ (get_or others i 0 ∷ drop (i + 1) others) = sym (take-append-drop i others) ∙ ap (λ (t : List ℕ). take i others ++ t) (drop_more others i 0 more) in
    is ∙ ap (λ (t : List ℕ). first ∷ t) split ∙ ap (λ (t : List ℕ). t ++ (get_or others i 0 ∷ drop (i + 1) others)) (sym (ap (take (1 + i)) is ∙ taken first i others))

-- where they are those of a number
pub next_in_word : (word others : List ℕ) (first i n m : ℕ) → word ≡ first ∷ others → i < length others → take (1 + i) word ≡ decimal m → n ≤ 1022 → m ≤ 1029
    → word ≡ decimal n → IsNext n m (get_or others i 0)
next_in_word word others first i n m is more front few small e =
    next_digit_of word n m (drop (i + 1) others) (get_or others i 0) few small
    (next_byte word others first i is more ∙ ap (λ (t : List ℕ). t ++ (get_or others i 0 ∷ drop (i + 1) others)) front) e

-- no byte may follow zero, nor a number above 102
pub no_more : (word others : List ℕ) (first i n m : ℕ) → word ≡ first ∷ others → i < length others → take (1 + i) word ≡ decimal m → n ≤ 1022 → m ≤ 1029
    → (m ≡ 0) ⊎ (102 < m) → word ≢ decimal n
no_more word others first i n m is more front few small out e =
    let (some, less, low, high) = next_in_word word others first i n m is more front few small e in
    absurd (⊎_elim (λ (none : m ≡ 0). omega (arith, some, none)) (λ (over : 102 < m). omega (arith, less, over, few)) out)

-- nor one that is not a digit
pub no_next : (word others : List ℕ) (first i n m : ℕ) → word ≡ first ∷ others → i < length others → take (1 + i) word ≡ decimal m → n ≤ 1022 → m ≤ 1029
    → (get_or others i 0 < 48) ⊎ (57 < get_or others i 0) → word ≢ decimal n
no_next word others first i n m is more front few small off e =
    let (some, less, low, high) = next_in_word word others first i n m is more front few small e in
    absurd (⊎_elim (λ (below : get_or others i 0 < 48). omega (arith, low, below)) (λ (above : 57 < get_or others i 0). omega (arith, high, above)) off)

-- another digit is read
pub one_more_byte : (word others : List ℕ) (first i m d : ℕ) → word ≡ first ∷ others → i < length others → take (1 + i) word ≡ decimal m → 0 < m → m ≤ 102
    → d < 10 → get_or others i 0 ≡ 48 + d → take (1 + (i + 1)) word ≡ decimal (10 * m + d)
one_more_byte word others first i m d is more front some few less digit =
    let last : take (i + 1) others ≡ take i others ++ (get_or others i 0 ∷ []) = take_more others i 0 more in
    ap (take (1 + (i + 1))) is ∙ taken first (i + 1) others ∙ ap (λ (t : List ℕ). first ∷ t) last
    ∙ ap (λ (t : List ℕ). t ++ (get_or others i 0 ∷ [])) (sym (ap (take (1 + i)) is ∙ taken first i others) ∙ front)
    ∙ ap (λ (b : ℕ). decimal m ++ (b ∷ [])) digit
    ∙ sym (more_digits m d some few less)

-- all is read
pub all_read : (word others : List ℕ) (first i m : ℕ) → word ≡ first ∷ others → length others ≤ i → take (1 + i) word ≡ decimal m → word ≡ decimal m
all_read word others first i m is done front = sym (take_all (1 + i) word (omega (arith, ap length is))) ∙ front

-- which is too much
pub too_much : (word : List ℕ) (n m : ℕ) → word ≡ decimal m → m ≤ 1029 → 1022 < m → n ≤ 1022 → word ≢ decimal n
too_much word n m is small over few e =
    let same : m ≡ n = decimal_injective m n (omega arith) (omega arith) (sym is ∙ e) in absurd (omega arith)
