-- The digits of a number as coefficients.
use Rattle.std.proofs.Common.{◌≡◌, ◌<◌, ◌≤◌, ◌*◌, ◌/◌, ◌%◌, ◌^◌, ◌+◌, ℕ, zero, suc, List, ◌∷◌, refl, sym, ap, ◌∙◌, arith, ⊎_elim, lt_of_lt_of_le}
use Rattle.std.proofs.lemmas.Bool.{cases_lt}
use Rattle.std.proofs.Math.Nat.{div-div-eq-div-mul, div-eq_of_lt}
use Rattle.std.proofs.Math.Pow.{pow-add, pow_mono}
use Rattle.bech32_gf.specs.Fe32 as fe32
use Rattle.bech32_gf.specs.declared.gf32.Fe32.{Fe32}
use Rattle.bech32_poly.specs.Polynomial.{coefficient}
use Rattle.bech32_checksum.specs.Packed.{digit_of, digits, tabulate}

-- a number has no digits past its size
pub digit_of-past : (d number n : ℕ) → number < 2 ^ (5 * d) → d ≤ n → digit_of number n ≡ fe32.zero
digit_of-past d number n h over =
    let wider : 5 * d ≤ 5 * n = omega arith in
    let e : number / 2 ^ (5 * n) ≡ 0 = div-eq_of_lt (lt_of_lt_of_le h (pow_mono wider)) in
    ap fe32.element e

pub coefficient-below : (d : ℕ) (f : ℕ → Fe32) (n : ℕ) → n < d → coefficient fe32.ops (tabulate d f) n ≡ f n
coefficient-below zero f n h = absurd (omega arith)
coefficient-below (suc d) f zero h = refl
coefficient-below (suc d) f (suc n) h = coefficient-below d (λ i. f (suc i)) n (omega arith)

coefficient-past : (d : ℕ) (f : ℕ → Fe32) (n : ℕ) → d ≤ n → coefficient fe32.ops (tabulate d f) n ≡ fe32.zero
coefficient-past zero f n h = refl
coefficient-past (suc d) f zero h = absurd (omega arith)
coefficient-past (suc d) f (suc n) h = coefficient-past d (λ i. f (suc i)) n (omega arith)

-- the digits of a number, as coefficients
pub coefficient-digits : (d number n : ℕ) → number < 2 ^ (5 * d) → coefficient fe32.ops (digits d number) n ≡ digit_of number n
coefficient-digits d number n h =
    ⊎_elim
    (λ (below : n < d). coefficient-below d (digit_of number) n below)
    (λ (above : d ≤ n). coefficient-past d (digit_of number) n above ∙ sym (digit_of-past d number n h above))
    (cases_lt n d)

digit_of-suc : (number i : ℕ) → digit_of number (suc i) ≡ digit_of (number / 32) i
digit_of-suc number i =
    let place : 5 * suc i ≡ 5 + 5 * i = omega arith in
    let power : 2 ^ (5 * suc i) ≡ 32 * 2 ^ (5 * i) = ap (λ j. 2 ^ j) place ∙ pow-add 2 5 (5 * i) in
    ap fe32.element (ap (λ j. number / j) power ∙ sym (div-div-eq-div-mul number 32 (2 ^ (5 * i))))

tabulate-same : (d : ℕ) (f g : ℕ → Fe32) → ((i : ℕ) → f i ≡ g i) → tabulate d f ≡ tabulate d g
tabulate-same zero f g h = refl
tabulate-same (suc d) f g h =
    ap (λ (x : Fe32). x ∷ tabulate d (λ i. f (suc i))) (h 0) ∙ ap (λ (xs : List Fe32). g 0 ∷ xs) (tabulate-same d (λ i. f (suc i)) (λ i. g (suc i)) (λ i. h (suc i)))

pub digits-suc : (d number : ℕ) → digits (suc d) number ≡ digit_of number 0 ∷ digits d (number / 32)
digits-suc d number = ap (λ (xs : List Fe32). digit_of number 0 ∷ xs) (tabulate-same d (λ i. digit_of number (suc i)) (digit_of (number / 32)) (digit_of-suc number))

lowest : (a b : ℕ) → digit_of a 0 ≡ digit_of b 0 → a % 32 ≡ b % 32
lowest a b e = let values : (digit_of a 0).value ≡ (digit_of b 0).value = ap (λ (x : Fe32). x.value) e in omega arith

below-part : (d a : ℕ) → a < 2 ^ (5 * suc d) → a / 32 < 2 ^ (5 * d)
below-part d a h =
    let place : 5 * suc d ≡ 5 + 5 * d = omega arith in
    let power : 2 ^ (5 * suc d) ≡ 32 * 2 ^ (5 * d) = ap (λ j. 2 ^ j) place ∙ pow-add 2 5 (5 * d) in
    let bound : a < 32 * 2 ^ (5 * d) = rw power at h in
    omega arith

parts : (x y : Fe32) (xs ys : List Fe32) → x ∷ xs ≡ y ∷ ys → (x ≡ y) × (xs ≡ ys)
parts x y xs ys e = (cc, cc)

-- numbers of the same digits are the same
pub digits-injective : (d a b : ℕ) → a < 2 ^ (5 * d) → b < 2 ^ (5 * d) → digits d a ≡ digits d b → a ≡ b
digits-injective zero a b ha hb e = omega arith
digits-injective (suc d) a b ha hb e =
    let both = parts (digit_of a 0) (digit_of b 0) (digits d (a / 32)) (digits d (b / 32)) (sym (digits-suc d a) ∙ e ∙ digits-suc d b) in
    let low : a % 32 ≡ b % 32 = lowest a b both.0 in
    let high : a / 32 ≡ b / 32 = digits-injective d (a / 32) (b / 32) (below-part d a ha) (below-part d b hb) both.1 in
    omega arith
