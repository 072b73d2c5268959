-- The field of the integers modulo 7, at which tests use code over any field.
use Rattle.std.specs.Prelude.{◌≡◌, ◌≢◌, ◌<◌, ◌≤◌, ◌+◌, ◌*◌, ◌-◌, ◌%◌, ◌^◌, ◌==◌, ◌↔◌, ℕ}
use Rattle.std.specs.Prelude.{zero, suc, Bool, true, false, IsTrue, [], ◌∷◌, slice_index}
use Rattle.std.specs.Coded.{le_prop}
use Rattle.std.proofs.Common.{refl, sym, ap, ◌∙◌, arith, eq-eqb}
use Rattle.std.proofs.lemmas.Bool.{eqb-true}
use mathlib.Core.HLevel.{is_prop→PathP}
use Rattle.bech32_gf.specs.laws.Below.{each_below-at, each_below-at₂, each_below-at₃}
use Rattle.bech32_gf.specs.laws.Divisors.{ListsDivisors-from_tests}
use Rattle.bech32_gf.specs.Field.{Ops, IsField, power, multiple, IsOrder}
use Rattle.bech32_gf.specs.Field.{IsCharacteristic, ListsDivisors, IsPositiveI64}
use Rattle.bech32_gf.specs.laws.FieldLaws.{IsOrder-from_divisors}

-- an integer modulo 7
pub record Residue : Type 0 where
  pub number : ℕ
  pub below : number < 7

pub path : (x y : Residue) → x.number ≡ y.number → x ≡ y
path x y e =
    λ i. record {
      number = e i;
      below = is_prop→PathP (λ j. e j < 7) (λ j. le_prop) x.below y.below i;
    }

pub mod_7-lt : (n : ℕ) → n % 7 < 7
mod_7-lt n = omega arith

-- a number modulo 7
abbrev pub residue : ℕ → Residue
residue n = record { number = n % 7; below = mod_7-lt n }

abbrev pub add : Residue → Residue → Residue
add x y = residue (x.number + y.number)

abbrev pub mul : Residue → Residue → Residue
mul x y = residue (x.number * y.number)

abbrev pub neg : Residue → Residue
neg x = residue (7 - x.number)

-- the inverse of an element other than zero is its fifth power
abbrev pub inv : Residue → Residue
inv x = residue (x.number ^ 5)

abbrev pub nothing : Residue
nothing = residue 0

abbrev pub one : Residue
one = residue 1

abbrev pub generator : Residue
generator = residue 3

abbrev pub ops : Ops Residue
ops = record { zero = nothing; one = one; add = add; mul = mul; neg = neg; inv = inv }

number-not_zero : (x : Residue) → x ≢ nothing → x.number ≢ 0
number-not_zero x h e = h (path x nothing e)

distinct : (x y : Residue) → x.number ≢ y.number → x ≢ y
distinct x y h e = h (ap (λ (z : Residue). z.number) e)

same_or_not : (x y : Residue) → Dec (x ≡ y)
same_or_not x y = decided (x.number == y.number) refl
  where
    decided : (b : Bool) → (x.number == y.number) ≡ b → Dec (x ≡ y)
    decided true e = yes (path x y (eqb-true x.number y.number e))
    decided false e = no (distinct x y (λ h. let t = eq-eqb x.number y.number h in cc))

mul_inv : (a : ℕ) → a < 7 → a ≢ 0 → (a * (a ^ 5 % 7)) % 7 ≡ 1
mul_inv zero h n = absurd (n refl)
mul_inv (suc a) h n =
    eqb-true _ _ (each_below-at 6 (λ a. (suc a * (suc a ^ 5 % 7)) % 7 == 1) refl a (omega arith))

-- the fifth power, as a product of the element and its fourth power
pub inv-products : (x : Residue) → mul x (mul (mul x x) (mul x x)) ≡ inv x
inv-products x =
    path _ _
    (eqb-true _ _ (each_below-at 7 (λ n. (n * (((n * n) % 7 * ((n * n) % 7)) % 7)) % 7 == n ^ 5 % 7)
    refl x.number x.below))

pub is_field : IsField ops
is_field = record {
  add_assoc = λ x y z. path _ _ (omega arith);
  add_comm = λ x y. path _ _ (omega arith);
  add_zero = λ x. path _ _ (omega (arith, x.below));
  add_neg = λ x. path _ _ (omega (arith, x.below));
  mul_assoc = λ x y z. path _ _
      (eqb-true _ _ (each_below-at₃ 7 (λ a b c. ((a * b) % 7 * c) % 7 == (a * ((b * c) % 7)) % 7)
      refl x.number y.number z.number x.below y.below z.below));
  mul_comm = λ x y. path _ _
      (eqb-true _ _ (each_below-at₂ 7 (λ a b. (a * b) % 7 == (b * a) % 7)
      refl x.number y.number x.below y.below));
  mul_one = λ x.
      path _ _ (eqb-true _ _ (each_below-at 7 (λ a. (a * 1) % 7 == a) refl x.number x.below));
  distrib = λ x y z. path _ _
      (eqb-true _ _ (each_below-at₃ 7
      (λ a b c. (a * ((b + c) % 7)) % 7 == ((a * b) % 7 + (a * c) % 7) % 7)
      refl x.number y.number z.number x.below y.below z.below));
  mul_inv = λ x h. path _ _ (mul_inv x.number x.below (number-not_zero x h));
  one_not_zero = distinct one nothing (λ h. omega arith);
  same_or_not = same_or_not;
}

pub eq_is_equal : (x y : Residue) → IsTrue (x.number == y.number) ↔ (x ≡ y)
eq_is_equal x y = (
  λ h. path x y (eqb-true x.number y.number h),
  λ e. eq-eqb x.number y.number (ap (λ (z : Residue). z.number) e),
)

-- ---- powers and multiples, on numbers

abbrev power_of : ℕ → ℕ → ℕ
power_of a zero = 1
power_of a (suc n) = (a * power_of a n) % 7

number-power : (x : Residue) (n : ℕ) → (power ops x n).number ≡ power_of x.number n
unfolding power
number-power x zero = refl
number-power x (suc n) = ap (λ m. (x.number * m) % 7) (number-power x n)

sixth_power : (a : ℕ) → a < 7 → a ≢ 0 → power_of a 6 ≡ 1
sixth_power zero h n = absurd (n refl)
sixth_power (suc a) h n =
    eqb-true _ _ (each_below-at 6 (λ a. power_of (suc a) 6 == 1) refl a (omega arith))

pub power-order : (x : Residue) → x ≢ nothing → power ops x 6 ≡ one
power-order x h = path _ _ (number-power x 6 ∙ sixth_power x.number x.below (number-not_zero x h))

pub divisors : ListsDivisors 6 (1 ∷ 2 ∷ 3 ∷ 6 ∷ [])
divisors =
    ListsDivisors-from_tests 6 3 (1 ∷ 2 ∷ 3 ∷ 6 ∷ []) (omega arith) (omega arith) refl refl refl

other_power : (n : ℕ) → power_of 3 n ≢ 1 → power ops generator n ≢ one
other_power n h e = h (sym (number-power generator n) ∙ ap (λ (z : Residue). z.number) e)

smaller_powers : (k : ℕ) → k < 4 → slice_index (1 ∷ 2 ∷ 3 ∷ 6 ∷ []) k ≢ 6
    → power ops generator (slice_index (1 ∷ 2 ∷ 3 ∷ 6 ∷ []) k) ≢ one
smaller_powers zero within differs = other_power 1 (λ h. omega arith)
smaller_powers (suc zero) within differs = other_power 2 (λ h. omega arith)
smaller_powers (suc (suc zero)) within differs = other_power 3 (λ h. omega arith)
smaller_powers (suc (suc (suc zero))) within differs = absurd (differs refl)
smaller_powers (suc (suc (suc (suc k)))) within differs = absurd (omega arith)

pub generator_order : IsOrder ops generator 6
generator_order =
    IsOrder-from_divisors is_field generator 6 (1 ∷ 2 ∷ 3 ∷ 6 ∷ []) (omega arith) divisors
    (power-order generator (distinct generator nothing (λ h. omega arith))) smaller_powers

number-multiple : (n : ℕ) → (multiple ops one n).number ≡ n % 7
unfolding multiple
number-multiple zero = refl
number-multiple (suc n) = let e = number-multiple n in omega arith

least_multiple : (n : ℕ) → 0 < n → multiple ops one n ≡ nothing → 7 ≤ n
least_multiple n some e =
    let none : n % 7 ≡ 0 = sym (number-multiple n) ∙ ap (λ (z : Residue). z.number) e in omega arith

pub characteristic : IsCharacteristic ops 7
characteristic = record {
  positive = omega arith;
  multiple_is_zero = path _ _ (number-multiple 7);
  least = least_multiple;
}

pub fits : IsPositiveI64 7 × IsPositiveI64 6
fits = (
  record { positive = omega arith; below = omega arith },
  record { positive = omega arith; below = omega arith },
)
