-- The table of the cases of bytes, computed over all bytes, and counts of letters.
use Rattle.std.specs.Prelude.{◌&&◌, ◌||◌, if◌then◌else◌}
use Rattle.std.specs.List.{list_all, list_any}
use Rattle.std.proofs.Common.{◌≡◌, ◌<◌, ◌≤◌, ◌+◌, ◌*◌, ◌^◌, ◌==◌, ◌∙◌, ℕ, Bool, true, false, List, [], ◌∷◌, ◌++◌, length, take, get_or, refl, ap, arith}
use Rattle.std.proofs.lemmas.List.{take_more}
use Rattle.std.proofs.lemmas.Bool.{eqb-true}
use Rattle.bech32_gf.specs.laws.Below.{each_below-at}
use Rattle.bech32_hrp.specs.Hrp.{is_graphic, is_lower, is_upper}
use Rattle.bech32_decode.specs.Letters.{letter_count}
use Rattle.bech32_decode.specs.declared.part_cases.TheConstants.{PART_CASES}

-- what the table has for a byte
abbrev case_of : ℕ → ℕ
case_of b =
    if is_graphic b then (if b == 49 then 2 ^ 24 else (if is_lower b then 1 else 0) + 2 ^ 12 * (if is_upper b then 1 else 0)) else 2 ^ 24

entry : (b : ℕ) → b < 256 → get_or PART_CASES b 0 ≡ case_of b
entry b h = eqb-true _ _ (each_below-at 256 (λ i. get_or PART_CASES i 0 == case_of i) refl b h)

choice-le : (a : Bool) → (if a then 1 else 0) ≤ 1
choice-le true = omega arith
choice-le false = omega arith

read : (g one : Bool) (n v : ℕ) → v ≡ (if g then (if one then 2 ^ 24 else n) else 2 ^ 24) → v < 2 ^ 24 → (g ≡ true) × (v ≡ n)
read true true n v e h = absurd (omega (arith, e, h))
read true false n v e h = (refl, e)
read false one n v e h = absurd (omega (arith, e, h))

pub case_read : (b v : ℕ) → b < 256 → v ≡ get_or PART_CASES b 0 → v < 2 ^ 24
    → (is_graphic b ≡ true) × (v ≡ (if is_lower b then 1 else 0) + 2 ^ 12 * (if is_upper b then 1 else 0))
case_read b v h is small = read (is_graphic b) (b == 49) _ v (is ∙ entry b h) small

letter_count-append : (p : ℕ → Bool) (xs ys : List ℕ) → letter_count p (xs ++ ys) ≡ letter_count p xs + letter_count p ys
letter_count-append p [] ys = omega arith
letter_count-append p (x ∷ xs) ys = let e = letter_count-append p xs ys in omega (arith, e)

pub letter_count-le : (p : ℕ → Bool) (xs : List ℕ) → letter_count p xs ≤ length xs
letter_count-le p [] = omega arith
letter_count-le p (x ∷ xs) = let e = letter_count-le p xs in let f = choice-le (p x) in omega (arith, e, f)

pub letter_count-more : (p : ℕ → Bool) (items : List ℕ) (i : ℕ) → i < length items
    → letter_count p (take (i + 1) items) ≡ letter_count p (take i items) + (if p (get_or items i 0) then 1 else 0)
letter_count-more p items i below =
    let e = ap (letter_count p) (take_more items i 0 below) ∙ letter_count-append p (take i items) (get_or items i 0 ∷ []) in
    omega (arith, e)

none-here : (a b : Bool) (n : ℕ) → (if a then 1 else 0) + n ≡ 0 → (n ≡ 0 → b ≡ false) → (a || b) ≡ false
none-here true b n h rest = absurd (omega (arith, h))
none-here false b n h rest = rest (omega (arith, h))

pub letter_count-none : (p : ℕ → Bool) (xs : List ℕ) → letter_count p xs ≡ 0 → list_any p xs ≡ false
letter_count-none p [] h = refl
letter_count-none p (x ∷ xs) h = none-here (p x) (list_any p xs) (letter_count p xs) h (letter_count-none p xs)

all-append : (p : ℕ → Bool) (xs : List ℕ) (b : ℕ) → list_all p xs ≡ true → p b ≡ true → list_all p (xs ++ b ∷ []) ≡ true
all-append p [] b h one = ap (λ (x : Bool). x && true) one
all-append p (x ∷ xs) b h one = all-cons (p x) (list_all p xs) (list_all p (xs ++ b ∷ [])) h (λ rest. all-append p xs b rest one)
  where
    all-cons : (a r s : Bool) → (a && r) ≡ true → (r ≡ true → s ≡ true) → (a && s) ≡ true
    all-cons true r s h f = f h
    all-cons false r s h f = h

pub list_all-more : (p : ℕ → Bool) (items : List ℕ) (i : ℕ) → i < length items → list_all p (take i items) ≡ true → p (get_or items i 0) ≡ true
    → list_all p (take (i + 1) items) ≡ true
list_all-more p items i below h one = ap (list_all p) (take_more items i 0 below) ∙ all-append p (take i items) (get_or items i 0) h one
