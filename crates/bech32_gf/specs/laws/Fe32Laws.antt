-- The field of 32 elements keeps the laws of a field.
use Rattle.std.specs.Prelude.{◌≡◌, ◌≢◌, ◌<◌, ◌≤◌, ℕ, Bool, true, false, zero}
use Rattle.std.specs.Prelude.{suc, ◌==◌, IsTrue, ◌↔◌, [], ◌∷◌, slice_index, Some}
use Rattle.std.proofs.Common.{refl, ap, arith, eq-eqb, sym, ◌∙◌}
use Rattle.std.proofs.lemmas.Bool.{eqb-true}
use Rattle.std.proofs.lemmas.Nat.{xor_comm}
use Rattle.std.specs.Int.Bits.{xor_assoc, xor_self, xor_zero_r}
use Rattle.bech32_gf.specs.Field.{IsField, power, multiple, IsOrder}
use Rattle.bech32_gf.specs.Field.{IsCharacteristic, ListsDivisors, IsPositiveI64}
use Rattle.bech32_gf.specs.laws.FieldLaws.{power-one, IsOrder-from_divisors}
use Rattle.bech32_gf.specs.laws.Divisors.{ListsDivisors-from_tests}
use Rattle.bech32_gf.specs.Gf32.{product, product_of}
use Rattle.bech32_gf.specs.laws.Gf32Laws.{product_comm, product_assoc, product-xor}
use Rattle.bech32_gf.specs.laws.Gf32Laws.{product-one, product-inverse, product_of-order}
use Rattle.bech32_gf.specs.Fe32 as fe32
use Rattle.bech32_gf.specs.declared.gf32.Fe32.{Fe32}

value-not_zero : (x : Fe32) → x ≢ fe32.zero → x.value ≢ 0
value-not_zero x h e = h (fe32.path x fe32.zero e)

-- elements of different values differ
pub differs : (x y : Fe32) → x.value ≢ y.value → x ≢ y
differs x y h e = h (ap (λ (z : Fe32). z.value) e)

-- whether two elements are equal is decided on their values
same_or_not : (x y : Fe32) → Dec (x ≡ y)
same_or_not x y = decided (x.value == y.value) refl
  where
    decided : (b : Bool) → (x.value == y.value) ≡ b → Dec (x ≡ y)
    decided true e = yes (fe32.path x y (eqb-true x.value y.value e))
    decided false e =
        no (λ h.
        let t : (x.value == y.value) ≡ true =
        eq-eqb x.value y.value (ap (λ (z : Fe32). z.value) h) in
        cc)

pub is_field : IsField fe32.ops
is_field = record {
  add_assoc = λ x y z. fe32.path _ _ (xor_assoc x.value y.value z.value);
  add_comm = λ x y. fe32.path _ _ (xor_comm x.value y.value);
  add_zero = λ x. fe32.path _ _ (xor_zero_r x.value);
  add_neg = λ x. fe32.path _ _ (xor_self x.value);
  mul_assoc = λ x y z.
      fe32.path _ _ (product_assoc x.value y.value z.value x.in_field y.in_field z.in_field);
  mul_comm = λ x y. fe32.path _ _ (product_comm x.value y.value x.in_field y.in_field);
  mul_one = λ x. fe32.path _ _ (product-one x.value x.in_field);
  distrib = λ x y z.
      fe32.path _ _ (product-xor x.value y.value z.value x.in_field y.in_field z.in_field);
  mul_inv = λ x h. fe32.path _ _ (product-inverse x.value x.in_field (value-not_zero x h));
  one_not_zero = λ h. let e : 1 ≡ 0 = ap (λ (x : Fe32). x.value) h in cc;
  same_or_not = same_or_not;
}

pub eq_is_equal : (x y : Fe32) → IsTrue (x.value == y.value) ↔ (x ≡ y)
eq_is_equal x y = (
  λ h. fe32.path x y (eqb-true x.value y.value h),
  λ e. eq-eqb x.value y.value (ap (λ (z : Fe32). z.value) e),
)

-- ---- powers and multiples

value_of-power : (x : Fe32) (n : ℕ) → (power fe32.ops x n).value ≡ product_of x.value n
unfolding power product_of
value_of-power x zero = refl
value_of-power x (suc n) = ap (product x.value) (value_of-power x n)

-- each element other than zero to the 31st is one
pub power-order : (x : Fe32) → x ≢ fe32.zero → power fe32.ops x 31 ≡ fe32.one
power-order x h =
    fe32.path _ _ (value_of-power x 31 ∙ product_of-order x.value x.in_field (value-not_zero x h))

-- the order is a prime number
pub divisors : ListsDivisors 31 (1 ∷ 31 ∷ [])
divisors = ListsDivisors-from_tests 31 6 (1 ∷ 31 ∷ []) (omega arith) (omega arith) refl refl refl

generator-not_zero : fe32.generator ≢ fe32.zero
generator-not_zero = differs fe32.generator fe32.zero (λ e. omega arith)

generator-not_one : fe32.generator ≢ fe32.one
generator-not_one = differs fe32.generator fe32.one (λ e. omega arith)

smaller_powers : (k : ℕ) → k < 2 → slice_index (1 ∷ 31 ∷ []) k ≢ 31
    → power fe32.ops fe32.generator (slice_index (1 ∷ 31 ∷ []) k) ≢ fe32.one
smaller_powers zero within other e = generator-not_one (sym (power-one is_field fe32.generator) ∙ e)
smaller_powers (suc zero) within other e = other refl
smaller_powers (suc (suc k)) within other e = absurd (omega arith)

-- the generator has the full order
pub generator_order : IsOrder fe32.ops fe32.generator 31
generator_order =
    IsOrder-from_divisors is_field fe32.generator 31 (1 ∷ 31 ∷ []) (omega arith) divisors
    (power-order fe32.generator generator-not_zero)
    smaller_powers

twice : fe32.add fe32.one (fe32.add fe32.one fe32.zero) ≡ fe32.zero
twice = fe32.path _ _ refl

once : fe32.add fe32.one fe32.zero ≢ fe32.zero
once = differs (fe32.add fe32.one fe32.zero) fe32.zero (λ e. omega arith)

least_multiple : (n : ℕ) → 0 < n → multiple fe32.ops fe32.one n ≡ fe32.zero → 2 ≤ n
unfolding multiple
least_multiple zero some e = absurd (omega arith)
least_multiple (suc zero) some e = absurd (once e)
least_multiple (suc (suc n)) some e = omega arith

multiple-two : multiple fe32.ops fe32.one 2 ≡ fe32.zero
unfolding multiple
multiple-two = twice

pub characteristic : IsCharacteristic fe32.ops 2
characteristic = record {
  positive = omega arith;
  multiple_is_zero = multiple-two;
  least = least_multiple;
}

pub fits : IsPositiveI64 2 × IsPositiveI64 31
fits = (
  record { positive = omega arith; below = omega arith },
  record { positive = omega arith; below = omega arith },
)

-- ---- the field as an extension of itself

pub same_element : (x y : Fe32) → Some y ≡ Some x → x ≡ y
same_element x y h = cc
