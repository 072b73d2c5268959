-- The 31st powers of the differences of locators, by computing, as powers of one of order 33.
use Rattle.std.specs.Prelude.{Bool, true, ◌==◌, ◌&&◌}
use Rattle.std.proofs.Common.{◌≡◌, ℕ, zero, suc, ◌+◌, ◌-◌, ◌*◌, ◌/◌, ◌%◌, ◌<◌, [], ◌∷◌, List, refl, sym, ap, ◌∙◌, arith}
use Rattle.std.proofs.lemmas.Bool.{eqb-true}
use Rattle.std.proofs.Math.Decide.{dec_lt}
use Rattle.bech32_gf.specs.Field.{power}
use Rattle.bech32_gf.specs.Gf32.{product}
use Rattle.bech32_gf.specs.Fe32 as fe32
use Rattle.bech32_gf.specs.laws.Below.{each_below, each_below-at, and_left, and_right}
use Rattle.bech32_gf.specs.laws.FieldLaws.{power-add, power-mul, power-of_product, power-of_one}
use Rattle.bech32_gf.specs.laws.Orders.{power_by_squares, power_by_squares-power}
use Rattle.bech32_gf_ext.specs.Fe1024 as fe1024
use Rattle.bech32_gf_ext.specs.Fe1024.{low, high, pair, add, mul}
use Rattle.bech32_gf_ext.specs.laws.Fe1024Laws.{is_field, parts, same_parts}
use Rattle.bech32_gf_ext.specs.declared.Fe32Ext.{Fe32Ext}
use Rattle.bech32_poly.proofs.Zero.{power_distinct}
use Rattle.bech32_checksum.specs.laws.RootLaws.{base, base-order, bech32_roots}
use Rattle.bech32_detect.proofs.Triples.{z}

pub base_not_zero : base ≡ fe1024.zero → ⊥
base_not_zero = (bech32_roots (omega arith)).not_zero

abbrev pub locator : ℕ → Fe32Ext 2
locator i = power fe1024.ops base i

-- the 31st powers of the base, of order 33
abbrev pub unit : ℕ → Fe32Ext 2
unit n = power fe1024.ops base (31 * n)

abbrev same : Fe32Ext 2 → Fe32Ext 2 → Bool
same x y = (low x).value == (low y).value && (high x).value == (high y).value

same-true : (x y : Fe32Ext 2) → same x y ≡ true → x ≡ y
same-true x y h =
    sym (parts x)
    ∙ same_parts (fe32.path _ _ (eqb-true _ _ (and_left _ _ h))) (fe32.path _ _ (eqb-true _ _ (and_right _ _ h)))
    ∙ parts y

abbrev ones : List Bool
ones = true ∷ true ∷ true ∷ true ∷ true ∷ []

abbrev from_one : ℕ → Bool
from_one d = same (power_by_squares fe1024.ops (add fe1024.one (power fe1024.ops base (suc d))) ones)
    (power_by_squares fe1024.ops (power fe1024.ops base (z (suc d))) ones)

all_from_one : each_below 88 from_one ≡ true
unfolding power add mul product
all_from_one = refl

pub from_one-power : (d : ℕ) → 0 < d → d < 89 → power fe1024.ops (add fe1024.one (locator d)) 31 ≡ unit (z d)
from_one-power zero some small = absurd (omega arith)
from_one-power (suc d) some small =
    let turn : z (suc d) * 31 ≡ 31 * z (suc d) = omega arith in
    sym (power_by_squares-power is_field (add fe1024.one (locator (suc d))) ones)
    ∙ same-true _ _ (each_below-at 88 from_one all_from_one d (omega arith))
    ∙ power_by_squares-power is_field (locator (z (suc d))) ones
    ∙ sym (power-mul is_field base (z (suc d)) 31)
    ∙ ap (power fe1024.ops base) turn

pub unit-add : (m n : ℕ) → mul (unit m) (unit n) ≡ unit (m + n)
unit-add m n =
    let sums : 31 * m + 31 * n ≡ 31 * (m + n) = omega arith in
    sym (power-add is_field base (31 * m) (31 * n)) ∙ ap (power fe1024.ops base) sums

locator-31 : (i : ℕ) → power fe1024.ops (locator i) 31 ≡ unit i
locator-31 i = let turn : i * 31 ≡ 31 * i = omega arith in sym (power-mul is_field base i 31) ∙ ap (power fe1024.ops base) turn

out_of_both : (x y : Fe32Ext 2) → add x (mul x y) ≡ mul x (add fe1024.one y)
out_of_both x y = sym (is_field.distrib x fe1024.one y ∙ ap (λ u. add u (mul x y)) (is_field.mul_one x))

pub gap : (i j : ℕ) → i < j → j < 89 → power fe1024.ops (add (locator i) (locator j)) 31 ≡ unit (i + z (j - i))
gap i j less small =
    let sums : j ≡ i + (j - i) = omega arith in
    ap (λ u. power fe1024.ops (add (locator i) u) 31) (ap locator sums ∙ power-add is_field base i (j - i))
    ∙ ap (λ u. power fe1024.ops u 31) (out_of_both (locator i) (locator (j - i)))
    ∙ power-of_product is_field (locator i) (add fe1024.one (locator (j - i))) 31
    ∙ ap (λ u. mul u (power fe1024.ops (add fe1024.one (locator (j - i))) 31)) (locator-31 i)
    ∙ ap (mul (unit i)) (from_one-power (j - i) (omega arith) (omega arith))
    ∙ unit-add i (z (j - i))

-- ---- equal powers have equal exponents modulo 33

round : (m : ℕ) → unit m ≡ unit (m % 33)
round m =
    let parts : 31 * m ≡ 1023 * (m / 33) + 31 * (m % 33) = omega arith in
    ap (power fe1024.ops base) parts
    ∙ power-add is_field base (1023 * (m / 33)) (31 * (m % 33))
    ∙ ap (λ u. mul u (unit (m % 33))) (power-mul is_field base 1023 (m / 33) ∙ ap (λ u. power fe1024.ops u (m / 33)) base-order.power_is_one ∙ power-of_one is_field (m / 33))
    ∙ is_field.mul_comm fe1024.one (unit (m % 33)) ∙ is_field.mul_one (unit (m % 33))

both_ways : (i j : ℕ) → (i < j → ⊥) → (j < i → ⊥) → i ≡ j
both_ways i j h k = omega arith

pub same_exponents : (m n : ℕ) → unit m ≡ unit n → m % 33 ≡ n % 33
same_exponents m n e = elim (dec_lt (m % 33) (n % 33)) [
  | yes less ↦ absurd (power_distinct is_field base 1023 (31 * (m % 33)) (31 * (n % 33)) base-order base_not_zero (omega arith) (omega arith) both)
  | no no_less ↦ elim (dec_lt (n % 33) (m % 33)) [
    | yes less ↦ absurd (power_distinct is_field base 1023 (31 * (n % 33)) (31 * (m % 33)) base-order base_not_zero (omega arith) (omega arith) (sym both))
    | no more ↦ both_ways (m % 33) (n % 33) no_less more
  ]
]
  where
    both : unit (m % 33) ≡ unit (n % 33)
    both = sym (round m) ∙ e ∙ round n
