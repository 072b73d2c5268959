-- The roots of the generator of Blech32 are lawful: the powers 1 to 6 of `base`, which has order
-- 1023.
use Rattle.std.proofs.Common.{◌≡◌, ◌≢◌, ◌≤◌, ℕ, true, false, []}
use Rattle.std.proofs.Common.{◌∷◌, refl, sym, ◌∙◌, ap, subst, arith}
use Rattle.std.proofs.Math.Decide.{dec_lt}
use Rattle.bech32_gf.specs.Field.{IsOrder, power}
use Rattle.bech32_gf.specs.laws.FieldLaws.{power-suc}
use Rattle.bech32_gf.specs.laws.Orders.{IsOrder-from_tests, differ, power_by_squares-power}
use Rattle.bech32_gf.specs.Gf32.{product}
use Rattle.bech32_gf.specs.Fe32 as fe32
use Rattle.bech32_gf_ext.specs.Fe32Ext.{path_of_values}
use Rattle.bech32_gf_ext.specs.Fe1024 as fe1024
use Rattle.bech32_gf_ext.specs.Fe1024.{pair, low, high, add, mul, embed, divisors}
use Rattle.bech32_gf_ext.specs.laws.Fe1024Laws.{is_field}
use Rattle.bech32_gf_ext.specs.laws.Fe1024Orders.{power-order, lists_divisors}
use Rattle.bech32_gf_ext.specs.declared.Fe32Ext.{Fe32Ext}
use Rattle.bech32_checksum.specs.Roots.{HasLawfulRoots, generator_at}
use Rattle.blech32.specs.Words.{blech32_code}

abbrev base : Fe32Ext 2
base = pair (fe32.element 30) (fe32.element 1)

base-not_zero : base ≢ fe1024.zero
base-not_zero h = differ 30 0 refl (ap (λ (x : Fe32Ext 2). (low x).value) h)

power-341-not_one : power fe1024.ops base 341 ≢ fe1024.one
unfolding mul product
power-341-not_one h =
    let bits = true ∷ false ∷ true ∷ false ∷ true ∷ false ∷ true ∷ false ∷ true ∷ [] in
    differ 0 1 refl
    (ap (λ (x : Fe32Ext 2). (low x).value) (power_by_squares-power is_field base bits ∙ h))

power-93-not_one : power fe1024.ops base 93 ≢ fe1024.one
unfolding mul product
power-93-not_one h =
    let bits = true ∷ false ∷ true ∷ true ∷ true ∷ false ∷ true ∷ [] in
    differ 30 1 refl
    (ap (λ (x : Fe32Ext 2). (low x).value) (power_by_squares-power is_field base bits ∙ h))

power-33-not_one : power fe1024.ops base 33 ≢ fe1024.one
unfolding mul product
power-33-not_one h =
    let bits = true ∷ false ∷ false ∷ false ∷ false ∷ true ∷ [] in
    differ 3 1 refl
    (ap (λ (x : Fe32Ext 2). (low x).value) (power_by_squares-power is_field base bits ∙ h))

base-order : IsOrder fe1024.ops base 1023
base-order =
    IsOrder-from_tests is_field base 1023 divisors
    (341 ∷ 93 ∷ 33 ∷ []) (omega arith) lists_divisors refl
    (power-order base base-not_zero) (power-341-not_one, (power-93-not_one, (power-33-not_one, tt)))

power-1 : power fe1024.ops base 1 ≡ pair (fe32.element 30) (fe32.element 1)
unfolding mul product
power-1 =
    let bits = true ∷ [] in
    sym (power_by_squares-power is_field base bits) ∙ path_of_values _ _ refl

power-2 : power fe1024.ops base 2 ≡ pair (fe32.element 29) (fe32.element 1)
unfolding mul product
power-2 = power-suc is_field base 1 ∙ ap (mul base) power-1 ∙ path_of_values _ _ refl

power-3 : power fe1024.ops base 3 ≡ pair (fe32.element 22) (fe32.element 2)
unfolding mul product
power-3 = power-suc is_field base 2 ∙ ap (mul base) power-2 ∙ path_of_values _ _ refl

power-4 : power fe1024.ops base 4 ≡ pair (fe32.element 24) (fe32.element 1)
unfolding mul product
power-4 = power-suc is_field base 3 ∙ ap (mul base) power-3 ∙ path_of_values _ _ refl

power-5 : power fe1024.ops base 5 ≡ pair (fe32.element 11) (fe32.element 7)
unfolding mul product
power-5 = power-suc is_field base 4 ∙ ap (mul base) power-4 ∙ path_of_values _ _ refl

power-6 : power fe1024.ops base 6 ≡ pair (fe32.element 10) (fe32.element 4)
unfolding mul product
power-6 = power-suc is_field base 5 ∙ ap (mul base) power-5 ∙ path_of_values _ _ refl

abbrev value : Fe32Ext 2 → Fe32Ext 2
value = generator_at fe1024.ops embed blech32_code

root-1 : value (pair (fe32.element 30) (fe32.element 1)) ≡ fe1024.zero
unfolding add mul product
root-1 = path_of_values _ _ refl

root-2 : value (pair (fe32.element 29) (fe32.element 1)) ≡ fe1024.zero
unfolding add mul product
root-2 = path_of_values _ _ refl

root-3 : value (pair (fe32.element 22) (fe32.element 2)) ≡ fe1024.zero
unfolding add mul product
root-3 = path_of_values _ _ refl

root-4 : value (pair (fe32.element 24) (fe32.element 1)) ≡ fe1024.zero
unfolding add mul product
root-4 = path_of_values _ _ refl

root-5 : value (pair (fe32.element 11) (fe32.element 7)) ≡ fe1024.zero
unfolding add mul product
root-5 = path_of_values _ _ refl

root-6 : value (pair (fe32.element 10) (fe32.element 4)) ≡ fe1024.zero
unfolding add mul product
root-6 = path_of_values _ _ refl

at : (m n : ℕ) → m ≡ n → value (power fe1024.ops base m) ≡ fe1024.zero
    → value (power fe1024.ops base n) ≡ fe1024.zero
at m n same root = subst (λ k. value (power fe1024.ops base k) ≡ fe1024.zero) same root

roots-from_5 : (e : ℕ) → 5 ≤ e → e ≤ 6 → value (power fe1024.ops base e) ≡ fe1024.zero
roots-from_5 e low high =
    elim (dec_lt e 6) [
      | yes is_5 ↦ at 5 e (omega arith) (ap value power-5 ∙ root-5)
      | no past_5 ↦ at 6 e (omega arith) (ap value power-6 ∙ root-6)
    ]

roots : (e : ℕ) → 1 ≤ e → e ≤ 6 → value (power fe1024.ops base e) ≡ fe1024.zero
roots e low high =
    elim (dec_lt e 2) [
      | yes is_1 ↦ at 1 e (omega arith) (ap value power-1 ∙ root-1)
      | no past_1 ↦
          elim (dec_lt e 3) [
            | yes is_2 ↦ at 2 e (omega arith) (ap value power-2 ∙ root-2)
            | no past_2 ↦
                elim (dec_lt e 4) [
                  | yes is_3 ↦ at 3 e (omega arith) (ap value power-3 ∙ root-3)
                  | no past_3 ↦
                      elim (dec_lt e 5) [
                        | yes is_4 ↦ at 4 e (omega arith) (ap value power-4 ∙ root-4)
                        | no past_4 ↦ roots-from_5 e (omega arith) high
                      ]
                ]
          ]
    ]

pub blech32_roots : HasLawfulRoots fe1024.ops embed blech32_code base 1 6
blech32_roots some = record {
  not_zero = base-not_zero;
  order = 1023;
  is_order = base-order;
  long_enough = omega arith;
  ordered = omega arith;
  few = omega arith;
  are_roots = roots;
}
