-- The roots of the checksum are lawful: the powers 9 to 16 of 5 + 5 z, which has order 93.
use Rattle.std.proofs.Common.{◌≡◌, ◌≢◌, ◌≤◌, ℕ, true, false, []}
use Rattle.std.proofs.Common.{◌∷◌, refl, sym, ◌∙◌, ap, subst, arith}
use Rattle.std.proofs.Math.Decide.{dec_lt}
use Rattle.bech32_gf.specs.Field.{IsOrder, ListsDivisors, power}
use Rattle.bech32_gf.specs.laws.Divisors.{ListsDivisors-from_tests}
use Rattle.bech32_gf.specs.laws.FieldLaws.{power-suc}
use Rattle.bech32_gf.specs.laws.Orders.{IsOrder-from_tests, differ, power_by_squares-power}
use Rattle.bech32_gf.specs.Gf32.{product}
use Rattle.bech32_gf.specs.Fe32 as fe32
use Rattle.bech32_gf_ext.specs.Fe32Ext.{path_of_values}
use Rattle.bech32_gf_ext.specs.Fe1024 as fe1024
use Rattle.bech32_gf_ext.specs.Fe1024.{pair, low, high, add, mul, embed}
use Rattle.bech32_gf_ext.specs.laws.Fe1024Laws.{is_field}
use Rattle.bech32_gf_ext.specs.declared.Fe32Ext.{Fe32Ext}
use Rattle.bech32_checksum.specs.Roots.{AreLawfulRoots, generator_at}
use Rattle.codex32.specs.Code.{codex32}

abbrev pub base : Fe32Ext 2
base = pair (fe32.element 5) (fe32.element 5)

base-not_zero : base ≢ fe1024.zero
base-not_zero h = differ 5 0 refl (ap (λ (x : Fe32Ext 2). (low x).value) h)

power-31 : power fe1024.ops base 31 ≢ fe1024.one
unfolding mul product
power-31 h =
    let bits = true ∷ true ∷ true ∷ true ∷ true ∷ [] in
    differ 1 0 refl
    (ap (λ (x : Fe32Ext 2). (high x).value) (power_by_squares-power is_field base bits ∙ h))

power-3 : power fe1024.ops base 3 ≢ fe1024.one
unfolding mul product
power-3 h =
    let bits = true ∷ true ∷ [] in
    differ 7 1 refl
    (ap (λ (x : Fe32Ext 2). (low x).value) (power_by_squares-power is_field base bits ∙ h))

power-93 : power fe1024.ops base 93 ≡ fe1024.one
unfolding mul product
power-93 =
    let bits = true ∷ false ∷ true ∷ true ∷ true ∷ false ∷ true ∷ [] in
    sym (power_by_squares-power is_field base bits) ∙ path_of_values _ _ refl

lists_divisors : ListsDivisors 93 (1 ∷ 3 ∷ 31 ∷ 93 ∷ [])
lists_divisors =
    ListsDivisors-from_tests 93 10 (1 ∷ 3 ∷ 31 ∷ 93 ∷ []) (omega arith) (omega arith) refl refl refl

base-order : IsOrder fe1024.ops base 93
base-order =
    IsOrder-from_tests is_field base 93 (1 ∷ 3 ∷ 31 ∷ 93 ∷ [])
    (31 ∷ 3 ∷ []) (omega arith) lists_divisors refl
    power-93 (power-31, (power-3, tt))

power-9 : power fe1024.ops base 9 ≡ pair (fe32.element 16) (fe32.element 0)
unfolding mul product
power-9 =
    let bits = true ∷ false ∷ false ∷ true ∷ [] in
    sym (power_by_squares-power is_field base bits) ∙ path_of_values _ _ refl

power-10 : power fe1024.ops base 10 ≡ pair (fe32.element 2) (fe32.element 2)
unfolding mul product
power-10 = power-suc is_field base 9 ∙ ap (mul base) power-9 ∙ path_of_values _ _ refl

power-11 : power fe1024.ops base 11 ≡ pair (fe32.element 0) (fe32.element 10)
unfolding mul product
power-11 = power-suc is_field base 10 ∙ ap (mul base) power-10 ∙ path_of_values _ _ refl

power-12 : power fe1024.ops base 12 ≡ pair (fe32.element 11) (fe32.element 0)
unfolding mul product
power-12 = power-suc is_field base 11 ∙ ap (mul base) power-11 ∙ path_of_values _ _ refl

power-13 : power fe1024.ops base 13 ≡ pair (fe32.element 14) (fe32.element 14)
unfolding mul product
power-13 = power-suc is_field base 12 ∙ ap (mul base) power-12 ∙ path_of_values _ _ refl

power-14 : power fe1024.ops base 14 ≡ pair (fe32.element 0) (fe32.element 31)
unfolding mul product
power-14 = power-suc is_field base 13 ∙ ap (mul base) power-13 ∙ path_of_values _ _ refl

power-15 : power fe1024.ops base 15 ≡ pair (fe32.element 24) (fe32.element 0)
unfolding mul product
power-15 = power-suc is_field base 14 ∙ ap (mul base) power-14 ∙ path_of_values _ _ refl

power-16 : power fe1024.ops base 16 ≡ pair (fe32.element 3) (fe32.element 3)
unfolding mul product
power-16 = power-suc is_field base 15 ∙ ap (mul base) power-15 ∙ path_of_values _ _ refl

root-9 :
    generator_at fe1024.ops embed codex32 (pair (fe32.element 16) (fe32.element 0)) ≡ fe1024.zero
unfolding add mul product
root-9 = path_of_values _ _ refl

root-10 :
    generator_at fe1024.ops embed codex32 (pair (fe32.element 2) (fe32.element 2)) ≡ fe1024.zero
unfolding add mul product
root-10 = path_of_values _ _ refl

root-11 :
    generator_at fe1024.ops embed codex32 (pair (fe32.element 0) (fe32.element 10)) ≡ fe1024.zero
unfolding add mul product
root-11 = path_of_values _ _ refl

root-12 :
    generator_at fe1024.ops embed codex32 (pair (fe32.element 11) (fe32.element 0)) ≡ fe1024.zero
unfolding add mul product
root-12 = path_of_values _ _ refl

root-13 :
    generator_at fe1024.ops embed codex32 (pair (fe32.element 14) (fe32.element 14)) ≡ fe1024.zero
unfolding add mul product
root-13 = path_of_values _ _ refl

root-14 :
    generator_at fe1024.ops embed codex32 (pair (fe32.element 0) (fe32.element 31)) ≡ fe1024.zero
unfolding add mul product
root-14 = path_of_values _ _ refl

root-15 :
    generator_at fe1024.ops embed codex32 (pair (fe32.element 24) (fe32.element 0)) ≡ fe1024.zero
unfolding add mul product
root-15 = path_of_values _ _ refl

root-16 :
    generator_at fe1024.ops embed codex32 (pair (fe32.element 3) (fe32.element 3)) ≡ fe1024.zero
unfolding add mul product
root-16 = path_of_values _ _ refl

roots : (e : ℕ) → 9 ≤ e → e ≤ 16
    → generator_at fe1024.ops embed codex32 (power fe1024.ops base e) ≡ fe1024.zero
roots e low high =
    elim (dec_lt e 10) [
      | yes is_9 ↦ at 9 e (omega arith) (ap value power-9 ∙ root-9)
      | no past_9 ↦
          elim (dec_lt e 11) [
            | yes is_10 ↦ at 10 e (omega arith) (ap value power-10 ∙ root-10)
            | no past_10 ↦
                elim (dec_lt e 12) [
                  | yes is_11 ↦ at 11 e (omega arith) (ap value power-11 ∙ root-11)
                  | no past_11 ↦
                      elim (dec_lt e 13) [
                        | yes is_12 ↦ at 12 e (omega arith) (ap value power-12 ∙ root-12)
                        | no past_12 ↦
                            elim (dec_lt e 14) [
                              | yes is_13 ↦ at 13 e (omega arith) (ap value power-13 ∙ root-13)
                              | no past_13 ↦
                                  elim (dec_lt e 15) [
                                    | yes is_14 ↦ at 14 e (omega arith)
                                        (ap value power-14 ∙ root-14)
                                    | no past_14 ↦
                                        elim (dec_lt e 16) [
                                          | yes is_15 ↦ at 15 e (omega arith)
                                              (ap value power-15 ∙ root-15)
                                          | no past_15 ↦
                                              at 16 e (omega arith) (ap value power-16 ∙ root-16)
                                        ]
                                  ]
                            ]
                      ]
                ]
          ]
    ]
  where
    value : Fe32Ext 2 → Fe32Ext 2
    value = generator_at fe1024.ops embed codex32

    at : (m n : ℕ) → m ≡ n → value (power fe1024.ops base m) ≡ fe1024.zero
        → value (power fe1024.ops base n) ≡ fe1024.zero
    at m n same root = subst (λ k. value (power fe1024.ops base k) ≡ fe1024.zero) same root

pub codex32_roots : AreLawfulRoots fe1024.ops embed codex32 base 9 16
codex32_roots = record {
  not_zero = base-not_zero;
  order = 93;
  is_order = base-order;
  long_enough = omega arith;
  ordered = omega arith;
  few = omega arith;
  are_roots = roots;
}
