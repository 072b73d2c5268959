-- Rows of digits, the highest first, and the numbers that they make.
use Rattle.std.proofs.Common.{◌≡◌, ◌<◌, ◌≤◌, ◌+◌, ◌*◌, ◌/◌, ◌%◌, ◌^◌, ℕ, suc, List, [], ◌∷◌, ◌++◌, map, reverse, length, refl, sym, ◌∙◌, ap, subst, arith}
use Rattle.std.specs.List.{All}
use Rattle.std.proofs.Math.Pow.{pow-add}
use Rattle.std.proofs.Math.Nat.{mul-le-mul_left, div-div-eq-div-mul}
use Rattle.std.proofs.lemmas.Nat.{div-mul-add}
use Rattle.std.proofs.lemmas.List.{length-append, length-reverse, reverse-append, reverse-reverse, get_or-reverse}
use Rattle.bech32_gf.specs.Fe32 as fe32
use Rattle.bech32_gf.specs.declared.gf32.Fe32.{Fe32}
use Rattle.bech32_poly.proofs.Lists.{same_cons}
use Rattle.bech32_checksum.specs.Packed.{digit_of, digits, tabulate, number_of_digits}

-- one place more
power-more : (n : ℕ) → 2 ^ (5 * suc n) ≡ 32 * 2 ^ (5 * n)
power-more n =
    let place : 5 * suc n ≡ 5 + 5 * n = omega arith in
    ap (λ j. 2 ^ j) place ∙ pow-add 2 5 (5 * n)

-- one more digit below the others
pub number_of_digits-more : (row : List ℕ) (digit : ℕ) → number_of_digits (row ++ (digit ∷ [])) ≡ number_of_digits row * 32 + digit
number_of_digits-more [] digit = omega arith
number_of_digits-more (first ∷ row) digit =
    let size : length (row ++ (digit ∷ [])) ≡ suc (length row) = simp length-append (omega arith) in
    let place : 2 ^ (5 * length (row ++ (digit ∷ []))) ≡ 32 * 2 ^ (5 * length row) = ap (λ n. 2 ^ (5 * n)) size ∙ power-more (length row) in
    rw place (omega (arith, number_of_digits-more row digit))

first_of : (first : ℕ) (row : List ℕ) → All (λ v. v < 32) (first ∷ row) → first < 32
first_of first row h = h 0 0 (omega arith)

rest_of : (first : ℕ) (row : List ℕ) → All (λ v. v < 32) (first ∷ row) → All (λ v. v < 32) row
rest_of first row h = λ k d below. h (suc k) d (omega arith)

-- a row of n digits is below 2 to the 5 n
pub number_of_digits-lt : (row : List ℕ) → All (λ v. v < 32) row → number_of_digits row < 2 ^ (5 * length row)
number_of_digits-lt [] h = omega arith
number_of_digits-lt (first ∷ row) h =
    let small : first + 1 ≤ 32 = omega (arith, first_of first row h) in
    let room : 2 ^ (5 * length row) * (first + 1) ≤ 2 ^ (5 * length row) * 32 = mul-le-mul_left (2 ^ (5 * length row)) small in
    rw (power-more (length row)) (omega (arith, number_of_digits-lt row (rest_of first row h)))

-- above the lowest digit stand the others
digit_above : (m e n : ℕ) → e < 32 → digit_of (m * 32 + e) (suc n) ≡ digit_of m n
digit_above m e n h =
    fe32.path _ _ (ap (λ w. w % 32)
    (ap (λ j. (m * 32 + e) / j) (power-more n)
    ∙ (sym (div-div-eq-div-mul (m * 32 + e) 32 (2 ^ (5 * n))) ∙ ap (λ j. j / 2 ^ (5 * n)) (div-mul-add m 32 e h))))

digits_lowest_first : (row : List ℕ) → All (λ v. v < 32) row → digits (length row) (number_of_digits (reverse row)) ≡ map fe32.element row
digits_lowest_first [] h = refl
digits_lowest_first (lowest ∷ row) h =
    let m : ℕ = number_of_digits (reverse row) in
    let small : lowest < 32 = first_of lowest row h in
    let whole : number_of_digits (reverse (lowest ∷ row)) ≡ m * 32 + lowest =
    ap number_of_digits (reverse-append (lowest ∷ []) row) ∙ number_of_digits-more (reverse row) lowest in
    let here : digit_of (m * 32 + lowest) 0 ≡ fe32.element lowest = fe32.path _ _ (omega arith) in
    let above : tabulate (length row) (λ i. digit_of (m * 32 + lowest) (suc i)) ≡ digits (length row) m =
    ap (λ (f : ℕ → Fe32). tabulate (length row) f) (λ i n. digit_above m lowest n small i) in
    ap (digits (suc (length row))) whole
    ∙ same_cons _ _ _ _ here (above ∙ digits_lowest_first row (rest_of lowest row h))

All-reverse : (row : List ℕ) → All (λ v. v < 32) row → All (λ v. v < 32) (reverse row)
All-reverse row h = λ k d below.
    let inside : k < length row = omega (arith, length-reverse row) in
    subst (λ v. v < 32) (sym (get_or-reverse row k d inside)) (h _ d (omega arith))

-- the digits of the number are those of the row, the lowest first
pub digits-number_of_digits : (row : List ℕ) → All (λ v. v < 32) row → digits (length row) (number_of_digits row) ≡ map fe32.element (reverse row)
digits-number_of_digits row h =
    ap (λ n. digits n (number_of_digits row)) (sym (length-reverse row))
    ∙ ap (λ r. digits (length (reverse row)) (number_of_digits r)) (sym (reverse-reverse row))
    ∙ digits_lowest_first (reverse row) (All-reverse row h)
