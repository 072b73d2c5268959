-- Eight characters as one word.
use Rattle.std.proofs.Common.{◌≡◌, ◌≤◌, ◌<◌, ◌+◌, ◌*◌, ◌/◌, ◌%◌, ◌^◌, ℕ, List, [], ◌∷◌, ◌++◌, length, take, drop, map, get_or, refl, ap, sym, ◌∙◌, arith}
use Rattle.std.proofs.lemmas.List.{drop-take, take-append-drop, take-take}
use Rattle.bech32_gf.specs.Fe32.{element, element_of, path}
use Rattle.bech32_gf.specs.Alphabet.{value_of, value_of-lt}
use Rattle.bech32_gf.specs.declared.gf32.Fe32.{Fe32}
use Rattle.bech32_poly.proofs.Lists.{same_cons}
use Rattle.bech32_checksum.specs.Word.{word_elements}
use Rattle.bech32_decode.specs.Cases.{counts_as_lower, counts_as_upper, lower_count, upper_count}
use Rattle.bech32_decode.proofs.Cases.{counts_as_lower-le}

pub first_eight-is : (bs : List ℕ) → 8 ≤ length bs
    → get_or bs 0 0 ∷ get_or bs 1 0 ∷ get_or bs 2 0 ∷ get_or bs 3 0 ∷ get_or bs 4 0 ∷ get_or bs 5 0 ∷ get_or bs 6 0 ∷ get_or bs 7 0 ∷ [] ≡ take 8 bs
first_eight-is [] l = absurd (omega arith)
first_eight-is (_ ∷ []) l = absurd (omega arith)
first_eight-is (_ ∷ _ ∷ []) l = absurd (omega arith)
first_eight-is (_ ∷ _ ∷ _ ∷ []) l = absurd (omega arith)
first_eight-is (_ ∷ _ ∷ _ ∷ _ ∷ []) l = absurd (omega arith)
first_eight-is (_ ∷ _ ∷ _ ∷ _ ∷ _ ∷ []) l = absurd (omega arith)
first_eight-is (_ ∷ _ ∷ _ ∷ _ ∷ _ ∷ _ ∷ []) l = absurd (omega arith)
first_eight-is (_ ∷ _ ∷ _ ∷ _ ∷ _ ∷ _ ∷ _ ∷ []) l = absurd (omega arith)
first_eight-is (_ ∷ _ ∷ _ ∷ _ ∷ _ ∷ _ ∷ _ ∷ _ ∷ bs) l = refl

-- the first items, and some more
pub part_more : (n k : ℕ) (bs rest : List ℕ) → rest ≡ drop n bs → take (n + k) bs ≡ take n bs ++ take k rest
part_more n k bs rest is =
    sym (take-append-drop n (take (n + k) bs))
    ∙ ap (λ (xs : List ℕ). xs ++ drop n (take (n + k) bs)) (take-take n (n + k) bs (omega arith))
    ∙ ap (λ (xs : List ℕ). take n bs ++ xs) (drop-take n k bs ∙ ap (take k) (sym is))

-- the first groups of eight, and one more
pub eight_more : (i : ℕ) (bs rest : List ℕ) → rest ≡ drop (i * 8) bs
    → take ((i + 1) * 8) bs ≡ take (i * 8) bs ++ take 8 rest
eight_more i bs rest is =
    let next : (i + 1) * 8 ≡ i * 8 + 8 = omega arith in
    ap (λ (k : ℕ). take k bs) next ∙ part_more (i * 8) 8 bs rest is

-- the digits of a sum of digits at their places
pub digits_are : (a b c d e f g h m n : ℕ) → a < 32 → b < 32 → c < 32 → d < 32 → e < 32 → f < 32 → g < 32 → h < 32
    → n ≡ a * 2 ^ 35 + b * 2 ^ 30 + c * 2 ^ 25 + d * 2 ^ 20 + e * 2 ^ 15 + f * 2 ^ 10 + g * 2 ^ 5 + h * 2 ^ 0 + m * 2 ^ 40
    → (n / 2 ^ 35 % 32 ≡ a) × (n / 2 ^ 30 % 32 ≡ b) × (n / 2 ^ 25 % 32 ≡ c) × (n / 2 ^ 20 % 32 ≡ d)
    × (n / 2 ^ 15 % 32 ≡ e) × (n / 2 ^ 10 % 32 ≡ f) × (n / 2 ^ 5 % 32 ≡ g) × (n / 2 ^ 0 % 32 ≡ h) × (n / 2 ^ 40 ≡ m)
digits_are a b c d e f g h m n ha hb hc hd he hf hg hh is =
    (omega arith, omega arith, omega arith, omega arith, omega arith, omega arith, omega arith, omega arith, omega arith)

pub elements_are : (a b c d e f g h m n : ℕ)
    → n ≡ value_of a * 2 ^ 35 + value_of b * 2 ^ 30 + value_of c * 2 ^ 25 + value_of d * 2 ^ 20
    + value_of e * 2 ^ 15 + value_of f * 2 ^ 10 + value_of g * 2 ^ 5 + value_of h * 2 ^ 0 + m * 2 ^ 40
    → (word_elements n ≡ map element_of (a ∷ b ∷ c ∷ d ∷ e ∷ f ∷ g ∷ h ∷ [])) × (n / 2 ^ 40 ≡ m)
elements_are a b c d e f g h m n is =
    let p = digits_are (value_of a) (value_of b) (value_of c) (value_of d) (value_of e) (value_of f) (value_of g) (value_of h) m n
    (value_of-lt a) (value_of-lt b) (value_of-lt c) (value_of-lt d) (value_of-lt e) (value_of-lt f) (value_of-lt g) (value_of-lt h) is in (
      same_cons _ _ _ _ (path (element (n / 2 ^ 35)) (element_of a) p.0)
          (same_cons _ _ _ _ (path (element (n / 2 ^ 30)) (element_of b) p.1)
          (same_cons _ _ _ _ (path (element (n / 2 ^ 25)) (element_of c) p.2)
          (same_cons _ _ _ _ (path (element (n / 2 ^ 20)) (element_of d) p.3)
          (same_cons _ _ _ _ (path (element (n / 2 ^ 15)) (element_of e) p.4)
          (same_cons _ _ _ _ (path (element (n / 2 ^ 10)) (element_of f) p.5)
          (same_cons _ _ _ _ (path (element (n / 2 ^ 5)) (element_of g) p.6)
          (same_cons _ _ _ _ (path (element (n / 2 ^ 0)) (element_of h) p.7) refl))))))),
      p.8,
    )

-- the same with the counts of letters
pub word_is : (a b c d e f g h n : ℕ)
    → n ≡ (value_of a * 2 ^ 35 + counts_as_lower a * 2 ^ 40 + counts_as_upper a * 2 ^ 52) + (value_of b * 2 ^ 30 + counts_as_lower b * 2 ^ 40 + counts_as_upper b * 2 ^ 52)
    + (value_of c * 2 ^ 25 + counts_as_lower c * 2 ^ 40 + counts_as_upper c * 2 ^ 52) + (value_of d * 2 ^ 20 + counts_as_lower d * 2 ^ 40 + counts_as_upper d * 2 ^ 52)
    + (value_of e * 2 ^ 15 + counts_as_lower e * 2 ^ 40 + counts_as_upper e * 2 ^ 52) + (value_of f * 2 ^ 10 + counts_as_lower f * 2 ^ 40 + counts_as_upper f * 2 ^ 52)
    + (value_of g * 2 ^ 5 + counts_as_lower g * 2 ^ 40 + counts_as_upper g * 2 ^ 52) + (value_of h * 2 ^ 0 + counts_as_lower h * 2 ^ 40 + counts_as_upper h * 2 ^ 52)
    → (word_elements n ≡ map element_of (a ∷ b ∷ c ∷ d ∷ e ∷ f ∷ g ∷ h ∷ []))
    × (n / 2 ^ 40 % 2 ^ 12 ≡ lower_count (a ∷ b ∷ c ∷ d ∷ e ∷ f ∷ g ∷ h ∷ []))
    × (n / 2 ^ 52 ≡ upper_count (a ∷ b ∷ c ∷ d ∷ e ∷ f ∷ g ∷ h ∷ []))
word_is a b c d e f g h n is =
    let l : ℕ = counts_as_lower a + counts_as_lower b + counts_as_lower c + counts_as_lower d + counts_as_lower e + counts_as_lower f + counts_as_lower g + counts_as_lower h in
    let u : ℕ = counts_as_upper a + counts_as_upper b + counts_as_upper c + counts_as_upper d + counts_as_upper e + counts_as_upper f + counts_as_upper g + counts_as_upper h in
    let parts = elements_are a b c d e f g h (l + 2 ^ 12 * u) n (omega arith) in
    let few : l ≤ 8 = omega (arith, counts_as_lower-le a, counts_as_lower-le b, counts_as_lower-le c, counts_as_lower-le d, counts_as_lower-le e, counts_as_lower-le f, counts_as_lower-le g, counts_as_lower-le h) in
    let low_is : n / 2 ^ 40 % 2 ^ 12 ≡ l = omega (arith, parts.1, few) in
    let up_is : n / 2 ^ 52 ≡ u = omega (arith, parts.1, few) in
    (parts.0, omega (arith, low_is), omega (arith, up_is))

-- what stands above forty bits does not count
pub same_word : (n : ℕ) → word_elements (n % 2 ^ 40) ≡ word_elements n
same_word n =
    let digit : (k : ℕ) (m : ℕ) → m / 2 ^ k % 32 ≡ n / 2 ^ k % 32 → element (m / 2 ^ k) ≡ element (n / 2 ^ k) = λ k m e. path (element (m / 2 ^ k)) (element (n / 2 ^ k)) e in
    same_cons _ _ _ _ (digit 35 (n % 2 ^ 40) (omega arith))
    (same_cons _ _ _ _ (digit 30 (n % 2 ^ 40) (omega arith))
    (same_cons _ _ _ _ (digit 25 (n % 2 ^ 40) (omega arith))
    (same_cons _ _ _ _ (digit 20 (n % 2 ^ 40) (omega arith))
    (same_cons _ _ _ _ (digit 15 (n % 2 ^ 40) (omega arith))
    (same_cons _ _ _ _ (digit 10 (n % 2 ^ 40) (omega arith))
    (same_cons _ _ _ _ (digit 5 (n % 2 ^ 40) (omega arith))
    (same_cons _ _ _ _ (digit 0 (n % 2 ^ 40) (omega arith)) refl)))))))

-- the element of a character's word
pub element_is : (c n v : ℕ) (e : Fe32) → n ≡ value_of c * 2 ^ 0 + counts_as_lower c * 2 ^ 40 + counts_as_upper c * 2 ^ 52 → v ≡ n % 32 → e ≡ element v → e ≡ element_of c
element_is c n v e is low_bits made = made ∙ path (element v) (element_of c) (omega (arith, is, low_bits, value_of-lt c))

pub cases_are : (c n : ℕ) → n ≡ value_of c * 2 ^ 0 + counts_as_lower c * 2 ^ 40 + counts_as_upper c * 2 ^ 52 → n / 2 ^ 40 ≡ counts_as_lower c + 2 ^ 12 * counts_as_upper c
cases_are c n is = omega (arith, is, value_of-lt c)
