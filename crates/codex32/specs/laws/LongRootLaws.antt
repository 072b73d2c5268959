-- The roots of the checksum of long strings are lawful: the powers 1019 to 1026 of 25 + 6 z, which
-- has order 1023.
use Rattle.std.proofs.Common.{◌≡◌, ◌≢◌, ◌≤◌, ℕ, true, false, []}
use Rattle.std.proofs.Common.{◌∷◌, refl, sym, ◌∙◌, ap, subst, arith}
use Rattle.std.proofs.Math.Decide.{dec_lt}
use Rattle.bech32_gf.specs.Field.{IsOrder, power}
use Rattle.bech32_gf.specs.laws.FieldLaws.{power-suc}
use Rattle.bech32_gf.specs.laws.Orders.{IsOrder-from_tests, differ, power_by_squares-power}
use Rattle.bech32_gf.specs.Gf32.{product}
use Rattle.bech32_gf.specs.Fe32 as fe32
use Rattle.bech32_gf_ext.specs.Fe32Ext.{path_of_values}
use Rattle.bech32_gf_ext.specs.Fe1024 as fe1024
use Rattle.bech32_gf_ext.specs.Fe1024.{pair, low, high, add, mul, embed, divisors}
use Rattle.bech32_gf_ext.specs.laws.Fe1024Laws.{is_field}
use Rattle.bech32_gf_ext.specs.laws.Fe1024Orders.{power-order, lists_divisors}
use Rattle.bech32_gf_ext.specs.declared.Fe32Ext.{Fe32Ext}
use Rattle.bech32_checksum.specs.Roots.{AreLawfulRoots, generator_at}
use Rattle.codex32.specs.Code.{long_codex32}

abbrev pub long_base : Fe32Ext 2
long_base = pair (fe32.element 25) (fe32.element 6)

long_base-not_zero : long_base ≢ fe1024.zero
long_base-not_zero h = differ 25 0 refl (ap (λ (x : Fe32Ext 2). (low x).value) h)

power-341 : power fe1024.ops long_base 341 ≢ fe1024.one
unfolding mul product
power-341 h =
    let bits = true ∷ false ∷ true ∷ false ∷ true ∷ false ∷ true ∷ false ∷ true ∷ [] in
    differ 1 0 refl
    (ap (λ (x : Fe32Ext 2). (high x).value) (power_by_squares-power is_field long_base bits ∙ h))

power-93 : power fe1024.ops long_base 93 ≢ fe1024.one
unfolding mul product
power-93 h =
    let bits = true ∷ false ∷ true ∷ true ∷ true ∷ false ∷ true ∷ [] in
    differ 23 0 refl
    (ap (λ (x : Fe32Ext 2). (high x).value) (power_by_squares-power is_field long_base bits ∙ h))

power-33 : power fe1024.ops long_base 33 ≢ fe1024.one
unfolding mul product
power-33 h =
    let bits = true ∷ false ∷ false ∷ false ∷ false ∷ true ∷ [] in
    differ 25 1 refl
    (ap (λ (x : Fe32Ext 2). (low x).value) (power_by_squares-power is_field long_base bits ∙ h))

long_base-order : IsOrder fe1024.ops long_base 1023
long_base-order =
    IsOrder-from_tests is_field long_base 1023 divisors
    (341 ∷ 93 ∷ 33 ∷ []) (omega arith) lists_divisors refl
    (power-order long_base long_base-not_zero)
    (power-341, (power-93, (power-33, tt)))

power-1019 : power fe1024.ops long_base 1019 ≡ pair (fe32.element 26) (fe32.element 27)
unfolding mul product
power-1019 =
    let bits = true ∷ true ∷ false ∷ true ∷ true ∷ true ∷ true ∷ true ∷ true ∷ true ∷ [] in
    sym (power_by_squares-power is_field long_base bits) ∙ path_of_values _ _ refl

power-1020 : power fe1024.ops long_base 1020 ≡ pair (fe32.element 3) (fe32.element 20)
unfolding mul product
power-1020 =
    power-suc is_field long_base 1019 ∙ ap (mul long_base) power-1019 ∙ path_of_values _ _ refl

power-1021 : power fe1024.ops long_base 1021 ≡ pair (fe32.element 1) (fe32.element 17)
unfolding mul product
power-1021 =
    power-suc is_field long_base 1020 ∙ ap (mul long_base) power-1020 ∙ path_of_values _ _ refl

power-1022 : power fe1024.ops long_base 1022 ≡ pair (fe32.element 4) (fe32.element 5)
unfolding mul product
power-1022 =
    power-suc is_field long_base 1021 ∙ ap (mul long_base) power-1021 ∙ path_of_values _ _ refl

power-1023 : power fe1024.ops long_base 1023 ≡ pair (fe32.element 1) (fe32.element 0)
unfolding mul product
power-1023 =
    power-suc is_field long_base 1022 ∙ ap (mul long_base) power-1022 ∙ path_of_values _ _ refl

power-1024 : power fe1024.ops long_base 1024 ≡ pair (fe32.element 25) (fe32.element 6)
unfolding mul product
power-1024 =
    power-suc is_field long_base 1023 ∙ ap (mul long_base) power-1023 ∙ path_of_values _ _ refl

power-1025 : power fe1024.ops long_base 1025 ≡ pair (fe32.element 29) (fe32.element 20)
unfolding mul product
power-1025 =
    power-suc is_field long_base 1024 ∙ ap (mul long_base) power-1024 ∙ path_of_values _ _ refl

power-1026 : power fe1024.ops long_base 1026 ≡ pair (fe32.element 21) (fe32.element 7)
unfolding mul product
power-1026 =
    power-suc is_field long_base 1025 ∙ ap (mul long_base) power-1025 ∙ path_of_values _ _ refl

abbrev value : Fe32Ext 2 → Fe32Ext 2
value = generator_at fe1024.ops embed long_codex32

root-1019 : value (pair (fe32.element 26) (fe32.element 27)) ≡ fe1024.zero
unfolding add mul product
root-1019 = path_of_values _ _ refl

root-1020 : value (pair (fe32.element 3) (fe32.element 20)) ≡ fe1024.zero
unfolding add mul product
root-1020 = path_of_values _ _ refl

root-1021 : value (pair (fe32.element 1) (fe32.element 17)) ≡ fe1024.zero
unfolding add mul product
root-1021 = path_of_values _ _ refl

root-1022 : value (pair (fe32.element 4) (fe32.element 5)) ≡ fe1024.zero
unfolding add mul product
root-1022 = path_of_values _ _ refl

root-1023 : value (pair (fe32.element 1) (fe32.element 0)) ≡ fe1024.zero
unfolding add mul product
root-1023 = path_of_values _ _ refl

root-1024 : value (pair (fe32.element 25) (fe32.element 6)) ≡ fe1024.zero
unfolding add mul product
root-1024 = path_of_values _ _ refl

root-1025 : value (pair (fe32.element 29) (fe32.element 20)) ≡ fe1024.zero
unfolding add mul product
root-1025 = path_of_values _ _ refl

root-1026 : value (pair (fe32.element 21) (fe32.element 7)) ≡ fe1024.zero
unfolding add mul product
root-1026 = path_of_values _ _ refl

at : (m n : ℕ) → m ≡ n → value (power fe1024.ops long_base m) ≡ fe1024.zero
    → value (power fe1024.ops long_base n) ≡ fe1024.zero
at m n same root = subst (λ k. value (power fe1024.ops long_base k) ≡ fe1024.zero) same root

last_roots : (e : ℕ) → 1023 ≤ e → e ≤ 1026 → value (power fe1024.ops long_base e) ≡ fe1024.zero
last_roots e low high =
    elim (dec_lt e 1024) [
      | yes is_1023 ↦ at 1023 e (omega arith) (ap value power-1023 ∙ root-1023)
      | no past_1023 ↦
          elim (dec_lt e 1025) [
            | yes is_1024 ↦ at 1024 e (omega arith) (ap value power-1024 ∙ root-1024)
            | no past_1024 ↦
                elim (dec_lt e 1026) [
                  | yes is_1025 ↦ at 1025 e (omega arith) (ap value power-1025 ∙ root-1025)
                  | no past_1025 ↦ at 1026 e (omega arith) (ap value power-1026 ∙ root-1026)
                ]
          ]
    ]

roots : (e : ℕ) → 1019 ≤ e → e ≤ 1026 → value (power fe1024.ops long_base e) ≡ fe1024.zero
roots e low high =
    elim (dec_lt e 1020) [
      | yes is_1019 ↦ at 1019 e (omega arith) (ap value power-1019 ∙ root-1019)
      | no past_1019 ↦
          elim (dec_lt e 1021) [
            | yes is_1020 ↦ at 1020 e (omega arith) (ap value power-1020 ∙ root-1020)
            | no past_1020 ↦
                elim (dec_lt e 1022) [
                  | yes is_1021 ↦ at 1021 e (omega arith) (ap value power-1021 ∙ root-1021)
                  | no past_1021 ↦
                      elim (dec_lt e 1023) [
                        | yes is_1022 ↦ at 1022 e (omega arith) (ap value power-1022 ∙ root-1022)
                        | no past_1022 ↦ last_roots e (omega arith) high
                      ]
                ]
          ]
    ]

pub long_codex32_roots : AreLawfulRoots fe1024.ops embed long_codex32 long_base 1019 1026
long_codex32_roots = record {
  not_zero = long_base-not_zero;
  order = 1023;
  is_order = long_base-order;
  long_enough = omega arith;
  ordered = omega arith;
  few = omega arith;
  are_roots = roots;
}
