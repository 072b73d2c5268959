-- Two characters as one number.
use Rattle.std.proofs.Common.{◌≡◌, ◌≤◌, ◌+◌, ◌-◌, ◌*◌, ◌/◌, ◌%◌, ◌^◌, ℕ, List, [], ◌∷◌, ◌++◌, length, take, drop, map, get_or, refl, ap, sym, ◌∙◌, arith}
use Rattle.std.proofs.lemmas.List.{take_all, take_more}
use Rattle.bech32_gf.specs.Fe32.{element, element_of, path}
use Rattle.bech32_gf.specs.Alphabet.{value_of, value_of-lt}
use Rattle.bech32_poly.proofs.Lists.{same_cons}
use Rattle.bech32_checksum.specs.Word.{two_elements}
use Rattle.bech32_decode.specs.Cases.{counts_as_lower, counts_as_upper, lower_count, upper_count}
use Rattle.bech32_decode.proofs.Cases.{counts_as_lower-le}
use Rattle.bech32_decode.proofs.EightAtOnce.{part_more}

pub first_two-is : (bs : List ℕ) → 2 ≤ length bs → get_or bs 0 0 ∷ get_or bs 1 0 ∷ [] ≡ take 2 bs
first_two-is [] l = absurd (omega arith)
first_two-is (_ ∷ []) l = absurd (omega arith)
first_two-is (_ ∷ _ ∷ bs) l = refl

-- the first pairs, and one more
pub two_more : (i : ℕ) (bs rest : List ℕ) → rest ≡ drop (2 * i) bs → take (2 * (i + 1)) bs ≡ take (2 * i) bs ++ take 2 rest
two_more i bs rest is =
    let next : 2 * (i + 1) ≡ 2 * i + 2 = omega arith in
    ap (λ (k : ℕ). take k bs) next ∙ part_more (2 * i) 2 bs rest is

-- the pairs, and the character behind them
pub last_more : (i : ℕ) (bs : List ℕ) → 2 * i + 1 ≡ length bs → bs ≡ take (2 * i) bs ++ get_or bs (length bs - 1) 0 ∷ []
last_more i bs is =
    let place : 2 * i ≡ length bs - 1 = omega (arith, is) in
    sym (take_all (2 * i + 1) bs (omega (arith, is))) ∙ take_more bs (2 * i) 0 (omega (arith, is))
    ∙ ap (λ (k : ℕ). take (2 * i) bs ++ get_or bs k 0 ∷ []) place

-- the elements and the counts of letters
pub two_is : (a b n : ℕ)
    → n ≡ (value_of a * 2 ^ 5 + counts_as_lower a * 2 ^ 40 + counts_as_upper a * 2 ^ 52) + (value_of b * 2 ^ 0 + counts_as_lower b * 2 ^ 40 + counts_as_upper b * 2 ^ 52)
    → (two_elements n ≡ map element_of (a ∷ b ∷ [])) × (n / 2 ^ 40 % 2 ^ 12 ≡ lower_count (a ∷ b ∷ [])) × (n / 2 ^ 52 ≡ upper_count (a ∷ b ∷ []))
two_is a b n is =
    let va = value_of-lt a in
    let vb = value_of-lt b in
    let la = counts_as_lower-le a in
    let lb = counts_as_lower-le b in
    let first : n / 2 ^ 5 % 32 ≡ value_of a = omega (arith, is, va, vb) in
    let second : n / 2 ^ 0 % 32 ≡ value_of b = omega (arith, is, va, vb) in
    let low : n / 2 ^ 40 % 2 ^ 12 ≡ counts_as_lower a + counts_as_lower b = omega (arith, is, va, vb, la, lb) in
    let up : n / 2 ^ 52 ≡ counts_as_upper a + counts_as_upper b = omega (arith, is, va, vb, la, lb) in (
      same_cons _ _ _ _ (path (element (n / 2 ^ 5)) (element_of a) first) (same_cons _ _ _ _ (path (element (n / 2 ^ 0)) (element_of b) second) refl),
      omega (arith, low),
      omega (arith, up),
    )

-- what stands above ten bits does not count
pub same_two : (n m : ℕ) → m ≡ n % 2 ^ 10 → two_elements m ≡ two_elements n
same_two n m is =
    same_cons _ _ _ _ (path (element (m / 2 ^ 5)) (element (n / 2 ^ 5)) (omega (arith, is)))
    (same_cons _ _ _ _ (path (element (m / 2 ^ 0)) (element (n / 2 ^ 0)) (omega (arith, is))) refl)
