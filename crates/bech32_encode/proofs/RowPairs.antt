-- The characters of a packed row, put at a place two by two.
use Rattle.std.proofs.Common.{◌≡◌, ◌≤◌, ◌<◌, ◌∙◌, ◌+◌, ◌-◌, ◌*◌, ◌/◌, ◌%◌, ◌++◌, ℕ, List, [], ◌∷◌, length, length-append, map, reverse, take, drop, set, refl, ap, sym, arith}
use Rattle.std.proofs.lemmas.List.{length-drop, length-map, length-reverse}
use Rattle.bech32_gf.specs.Alphabet.{char_of}
use Rattle.bech32_checksum.specs.Encoded.{char_of_element}
use Rattle.bech32_checksum.specs.Packed.{digit_of, digits}
use Rattle.bech32_checksum.proofs.Digits.{length-tabulate}
use Rattle.bech32_encode.proofs.Placed.{placed_none}
use Rattle.bech32_encode.proofs.TextPieces.{characters_none, characters_more}
use Rattle.bech32_encode.proofs.WholeGroups.{set_next}

-- the characters of the highest i of the n lowest digits of a number
abbrev pub highest : ℕ → ℕ → ℕ → List ℕ
highest n number i = map char_of_element (reverse (drop (n - i) (digits n number)))

length-highest : (n number i : ℕ) → i ≤ n → length (highest n number i) ≡ i
length-highest n number i within =
    let all : length (digits n number) ≡ n = length-tabulate n (digit_of number) in
    let behind : length (drop (n - i) (digits n number)) ≡ length (digits n number) - (n - i) = length-drop (n - i) (digits n number) in
    length-map (reverse (drop (n - i) (digits n number))) char_of_element ∙ length-reverse (drop (n - i) (digits n number)) ∙ (omega arith)

-- none stands yet
pub no_pairs : (n number at : ℕ) (old : List ℕ) → old ≡ take at old ++ (highest n number (2 * 0) ++ drop (at + 2 * 0) old)
no_pairs n number at old =
    placed_none old at (at + 2 * 0) (omega arith)
    ∙ ap (λ (l : List ℕ). take at old ++ (l ++ drop (at + 2 * 0) old)) (sym (characters_none n number))

-- one pair more
pub pair_more : (n number i at : ℕ) (old before new : List ℕ) (a b two place : ℕ)
    → 2 * i + 2 ≤ n → at + n ≤ length old → place ≡ at + 2 * i
    → a ≡ (digit_of number (n - 1 - 2 * i)).value → b ≡ (digit_of number (n - 2 - 2 * i)).value → b < 32 → two ≡ a * 32 + b
    → before ≡ take at old ++ (highest n number (2 * i) ++ drop (at + 2 * i) old)
    → new ≡ set (set before place (char_of (two / 32))) (place + 1) (char_of (two % 32))
    → new ≡ take at old ++ (highest n number (2 * (i + 1)) ++ drop (at + 2 * (i + 1)) old)
pair_more n number i at old before new a b two place within room here high low small is so_far put =
    let m : ℕ = 2 * i in
    let xs : List ℕ = highest n number m in
    let size : length xs ≡ m = length-highest n number m (omega arith) in
    let x : ℕ = char_of (two / 32) in
    let y : ℕ = char_of (two % 32) in
    let first : two / 32 ≡ (digit_of number (n - 1 - m)).value = (omega (arith, is, small)) ∙ high in
    let at_low : n - 2 - m ≡ n - 1 - (m + 1) = omega arith in
    let second : two % 32 ≡ (digit_of number (n - 1 - (m + 1))).value = (omega (arith, is, small)) ∙ low ∙ ap (λ (k : ℕ). (digit_of number k).value) at_low in
    let both : length (xs ++ x ∷ []) ≡ length xs + 1 = length-append xs (x ∷ []) in
    let one = set_next xs old before at (at + m) (at + m + 1) x (omega arith) (omega arith) (omega arith) refl so_far in
    let next = set_next (xs ++ x ∷ []) old (set before (at + m) x) at (at + m + 1) (at + 2 * (i + 1)) y (omega arith) (omega arith) (omega arith) (omega arith) one in
    let more : 2 * (i + 1) ≡ m + 1 + 1 = omega arith in
    let characters : highest n number (2 * (i + 1)) ≡ (xs ++ x ∷ []) ++ y ∷ [] =
    ap (highest n number) more
    ∙ characters_more n number (m + 1) (omega arith)
    ∙ ap (λ (l : List ℕ). l ++ char_of_element (digit_of number (n - 1 - (m + 1))) ∷ []) (characters_more n number m (omega arith))
    ∙ ap (λ (u : ℕ). (xs ++ u ∷ []) ++ char_of_element (digit_of number (n - 1 - (m + 1))) ∷ []) (sym (ap char_of first))
    ∙ ap (λ (v : ℕ). (xs ++ x ∷ []) ++ v ∷ []) (sym (ap char_of second)) in
    put
    ∙ ap (λ (k : ℕ). set (set before k x) (k + 1) y) here
    ∙ next
    ∙ ap (λ (l : List ℕ). take at old ++ (l ++ drop (at + 2 * (i + 1)) old)) (sym characters)

-- all stand
pub all_pairs : (n number i at : ℕ) (old new : List ℕ) → 2 * i ≡ n
    → new ≡ take at old ++ (highest n number (2 * i) ++ drop (at + 2 * i) old)
    → new ≡ take at old ++ (map char_of_element (reverse (digits n number)) ++ drop (at + n) old)
all_pairs n number i at old new all is =
    let none : n - n ≡ 0 = omega arith in
    is
    ∙ ap (λ (k : ℕ). take at old ++ (highest n number k ++ drop (at + k) old)) all
    ∙ ap (λ (k : ℕ). take at old ++ (map char_of_element (reverse (drop k (digits n number))) ++ drop (at + n) old)) none

pub length-characters : (n number : ℕ) → length (map char_of_element (reverse (digits n number))) ≡ n
length-characters n number =
    length-map (reverse (digits n number)) char_of_element ∙ length-reverse (digits n number) ∙ length-tabulate n (digit_of number)
