-- The order of an element by few powers, and powers by squares.
use Rattle.std.specs.Prelude.{◌≡◌, ◌≢◌, ◌<◌, ◌+◌, ◌*◌, ◌/◌, ◌%◌, ◌==◌, ◌||◌, ℕ, zero, suc, Bool}
use Rattle.std.specs.Prelude.{true, false, List, [], ◌∷◌, length, slice_index, if◌then◌else◌}
use Rattle.std.specs.List.{list_any, list_all, AllByRecursion}
use Rattle.std.proofs.Common.{refl, sym, ap, ◌∙◌, arith, zero-add, ⊎_elim, eq-eqb}
use Rattle.std.proofs.lemmas.Bool.{eqb-true, or_cases, and_parts}
use Rattle.bech32_gf.specs.Field.{Ops, IsField, power, IsOrder, ListsDivisors}
use Rattle.bech32_gf.specs.laws.FieldLaws.{power-zero, power-suc, power-of_one}
use Rattle.bech32_gf.specs.laws.FieldLaws.{power-mul, IsOrder-from_divisors}

module _ {F : Type 0} {o : Ops F} (l : IsField o) where
  power-at_multiple : (x : F) (d n : ℕ) → n % d ≡ 0 → power o x d ≡ o.one → power o x n ≡ o.one
  power-at_multiple x d n whole e =
      let split : n ≡ d * (n / d) = omega arith in
      ap (power o x) split ∙ power-mul l x d (n / d) ∙ ap (λ (y : F). power o y (n / d)) e
      ∙ power-of_one l (n / d)

  -- no power of x is one at a number that divides one of the tests
  none_divides : (x : F) (tests : List ℕ) (d : ℕ) → power o x d ≡ o.one
      → AllByRecursion (λ t. power o x t ≢ o.one) tests → list_any (λ t. t % d == 0) tests ≡ true
      → ⊥
  none_divides x [] d e bad h = cc
  none_divides x (t ∷ tests) d e bad h =
      ⊎_elim
      (λ (here : (t % d == 0) ≡ true). bad.0 (power-at_multiple x d t (eqb-true (t % d) 0 here) e))
      (λ (later : list_any (λ s. s % d == 0) tests ≡ true). none_divides x tests d e bad.1 later)
      (or_cases (t % d == 0) (list_any (λ s. s % d == 0) tests) h)

  -- the order of x is n, where the power at n is one, and each divisor of n but n itself divides
  -- a number at which the power is not one
  pub IsOrder-from_tests : (x : F) (n : ℕ) (divisors tests : List ℕ) → 0 < n
      → ListsDivisors n divisors
      → list_all (λ d. (d == n) || list_any (λ t. t % d == 0) tests) divisors ≡ true
      → power o x n ≡ o.one
      → AllByRecursion (λ t. power o x t ≢ o.one) tests
      → IsOrder o x n
  IsOrder-from_tests x n divisors tests some lists covered whole bad =
      IsOrder-from_divisors l x n divisors some lists whole
      (λ k within other e.
      let d = slice_index divisors k in
      ⊎_elim
      (λ (same : (d == n) ≡ true). other (eqb-true d n same))
      (λ (divides : list_any (λ t. t % d == 0) tests ≡ true). none_divides x tests d e bad divides)
      (or_cases (d == n) (list_any (λ t. t % d == 0) tests) (at divisors k within covered)))
    where
      at : (ds : List ℕ) (k : ℕ) → k < length ds
          → list_all (λ d. (d == n) || list_any (λ t. t % d == 0) tests) ds ≡ true
          → ((slice_index ds k == n) || list_any (λ t. t % slice_index ds k == 0) tests) ≡ true
      at [] k within h = absurd (omega arith)
      at (d ∷ ds) zero within h =
          (and_parts ((d == n) || list_any (λ t. t % d == 0) tests)
          (list_all (λ d. (d == n) || list_any (λ t. t % d == 0) tests) ds) h).0
      at (d ∷ ds) (suc k) within h =
          let less : k < length ds = omega arith in
          at ds k less (and_parts ((d == n) || list_any (λ t. t % d == 0) tests)
          (list_all (λ d. (d == n) || list_any (λ t. t % d == 0) tests) ds) h).1

-- two numerals that are not the same
pub differ : (m n : ℕ) → (m == n) ≡ false → m ≢ n
differ m n apart e = let same : (m == n) ≡ true = eq-eqb m n e in cc

-- the number whose bits are these, the lowest first
abbrev pub number_of : List Bool → ℕ
number_of [] = 0
number_of (b ∷ bits) = (if b then 1 else 0) + (number_of bits + number_of bits)

-- the power at that number, by squares
abbrev pub power_by_squares : {F : Type 0} → Ops F → F → List Bool → F
power_by_squares o x [] = o.one
power_by_squares o x (b ∷ bits) =
    if b then o.mul x (power_by_squares o (o.mul x x) bits) else power_by_squares o (o.mul x x) bits

module _ {F : Type 0} {o : Ops F} (l : IsField o) where
  power-square : (x : F) (n : ℕ) → power o (o.mul x x) n ≡ power o x (n + n)
  unfolding power
  power-square x zero = refl
  power-square x (suc n) =
      let e : suc n + suc n ≡ suc (suc (n + n)) = omega arith in
      rw (e, l.mul_assoc) (ap (λ (w : F). o.mul x (o.mul x w)) (power-square x n))

  pub power_by_squares-power : (x : F) (bits : List Bool)
      → power_by_squares o x bits ≡ power o x (number_of bits)
  power_by_squares-power x [] = sym (power-zero l x)
  power_by_squares-power x (false ∷ bits) =
      power_by_squares-power (o.mul x x) bits ∙ power-square x (number_of bits)
      ∙ ap (power o x) (sym (zero-add (number_of bits + number_of bits)))
  power_by_squares-power x (true ∷ bits) =
      let n = number_of bits + number_of bits in
      let e : suc n ≡ 1 + n = omega arith in
      ap (o.mul x) (power_by_squares-power (o.mul x x) bits ∙ power-square x (number_of bits))
      ∙ sym (power-suc l x n) ∙ ap (power o x) e

-- a map that keeps one and products keeps powers
pub power-map : {B F : Type 0} (b : Ops B) (o : Ops F) (f : B → F) → f b.one ≡ o.one
    → ((x y : B) → f (b.mul x y) ≡ o.mul (f x) (f y))
    → (x : B) (n : ℕ) → f (power b x n) ≡ power o (f x) n
unfolding power
power-map b o f one products x zero = one
power-map b o f one products x (suc n) =
    products x (power b x n) ∙ ap (o.mul (f x)) (power-map b o f one products x n)
