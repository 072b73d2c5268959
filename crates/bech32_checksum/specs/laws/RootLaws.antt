-- The roots of the checksums of the standards are lawful.
use Rattle.std.proofs.Common.{◌≡◌, ◌≢◌, ◌≤◌, ℕ, true, false, []}
use Rattle.std.proofs.Common.{◌∷◌, refl, sym, ◌∙◌, ap, subst, arith}
use Rattle.std.proofs.Math.Decide.{dec_lt}
use Rattle.bech32_gf.specs.Field.{IsOrder, power}
use Rattle.bech32_gf.specs.laws.FieldLaws.{power-suc}
use Rattle.bech32_gf.specs.laws.Orders.{IsOrder-from_tests, differ, power_by_squares-power}
use Rattle.bech32_gf.specs.Gf32.{product}
use Rattle.bech32_gf.specs.Fe32 as fe32
use Rattle.bech32_gf_ext.specs.Fe32Ext.{path_of_values}
use Rattle.bech32_gf_ext.specs.Fe1024 as fe1024
use Rattle.bech32_gf_ext.specs.Fe1024.{pair, low, high, add, mul, embed, divisors}
use Rattle.bech32_gf_ext.specs.laws.Fe1024Laws.{is_field}
use Rattle.bech32_gf_ext.specs.laws.Fe1024Orders.{power-order, lists_divisors}
use Rattle.bech32_gf_ext.specs.declared.Fe32Ext.{Fe32Ext}
use Rattle.bech32_checksum.specs.Code.{no_checksum, bech32, bech32m}
use Rattle.bech32_checksum.specs.Roots.{HasLawfulRoots, generator_at}

-- ---- at degree 0 nothing is asked

pub no_checksum_roots : HasLawfulRoots fe32.ops (λ x. x) no_checksum fe32.one 0 0
no_checksum_roots some = absurd (omega arith)

-- ---- Bech32 and Bech32m: the powers 24 to 26 of 1 + 6 z, which has order 1023

abbrev pub base : Fe32Ext 2
base = pair fe32.one (fe32.element 6)

base-not_zero : base ≢ fe1024.zero
base-not_zero h = differ 1 0 refl (ap (λ (x : Fe32Ext 2). (low x).value) h)

power-341 : power fe1024.ops base 341 ≢ fe1024.one
unfolding mul product
power-341 h =
    let bits = true ∷ false ∷ true ∷ false ∷ true ∷ false ∷ true ∷ false ∷ true ∷ [] in
    differ 1 0 refl
    (ap (λ (x : Fe32Ext 2). (high x).value) (power_by_squares-power is_field base bits ∙ h))

power-93 : power fe1024.ops base 93 ≢ fe1024.one
unfolding mul product
power-93 h =
    let bits = true ∷ false ∷ true ∷ true ∷ true ∷ false ∷ true ∷ [] in
    differ 21 0 refl
    (ap (λ (x : Fe32Ext 2). (high x).value) (power_by_squares-power is_field base bits ∙ h))

power-33 : power fe1024.ops base 33 ≢ fe1024.one
unfolding mul product
power-33 h =
    let bits = true ∷ false ∷ false ∷ false ∷ false ∷ true ∷ [] in
    differ 19 1 refl
    (ap (λ (x : Fe32Ext 2). (low x).value) (power_by_squares-power is_field base bits ∙ h))

pub base-order : IsOrder fe1024.ops base 1023
base-order =
    IsOrder-from_tests is_field base 1023 divisors
    (341 ∷ 93 ∷ 33 ∷ []) (omega arith) lists_divisors refl
    (power-order base base-not_zero)
    (power-341, (power-93, (power-33, tt)))

power-24 : power fe1024.ops base 24 ≡ pair (fe32.element 12) (fe32.element 24)
unfolding mul product
power-24 =
    let bits = false ∷ false ∷ false ∷ true ∷ true ∷ [] in
    sym (power_by_squares-power is_field base bits) ∙ path_of_values _ _ refl

power-25 : power fe1024.ops base 25 ≡ pair (fe32.element 14) (fe32.element 27)
unfolding mul product
power-25 = power-suc is_field base 24 ∙ ap (mul base) power-24 ∙ path_of_values _ _ refl

power-26 : power fe1024.ops base 26 ≡ pair (fe32.element 6) (fe32.element 30)
unfolding mul product
power-26 = power-suc is_field base 25 ∙ ap (mul base) power-25 ∙ path_of_values _ _ refl

first_root :
    generator_at fe1024.ops embed bech32 (pair (fe32.element 12) (fe32.element 24)) ≡ fe1024.zero
unfolding add mul product
first_root = path_of_values _ _ refl

second_root :
    generator_at fe1024.ops embed bech32 (pair (fe32.element 14) (fe32.element 27)) ≡ fe1024.zero
unfolding add mul product
second_root = path_of_values _ _ refl

third_root :
    generator_at fe1024.ops embed bech32 (pair (fe32.element 6) (fe32.element 30)) ≡ fe1024.zero
unfolding add mul product
third_root = path_of_values _ _ refl

roots : (e : ℕ) → 24 ≤ e → e ≤ 26
    → generator_at fe1024.ops embed bech32 (power fe1024.ops base e) ≡ fe1024.zero
roots e low high =
    elim (dec_lt e 25) [
      | yes first ↦ at 24 e (omega arith) (ap value power-24 ∙ first_root)
      | no later ↦ elim (dec_lt e 26) [
        | yes second ↦ at 25 e (omega arith) (ap value power-25 ∙ second_root)
        | no last ↦ at 26 e (omega arith) (ap value power-26 ∙ third_root)
      ]
    ]
  where
    value : Fe32Ext 2 → Fe32Ext 2
    value = generator_at fe1024.ops embed bech32

    at : (m n : ℕ) → m ≡ n → value (power fe1024.ops base m) ≡ fe1024.zero
        → value (power fe1024.ops base n) ≡ fe1024.zero
    at m n same root = subst (λ k. value (power fe1024.ops base k) ≡ fe1024.zero) same root

-- the two codes have one generator and one length
pub bech32_roots : HasLawfulRoots fe1024.ops embed bech32 base 24 26
bech32_roots some = record {
  not_zero = base-not_zero;
  order = 1023;
  is_order = base-order;
  long_enough = omega arith;
  ordered = omega arith;
  few = omega arith;
  are_roots = roots;
}

pub bech32m_roots : HasLawfulRoots fe1024.ops embed bech32m base 24 26
bech32m_roots some = record {
  not_zero = base-not_zero;
  order = 1023;
  is_order = base-order;
  long_enough = omega arith;
  ordered = omega arith;
  few = omega arith;
  are_roots = roots;
}
