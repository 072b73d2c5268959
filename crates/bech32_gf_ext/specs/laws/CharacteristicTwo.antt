-- Sums and products in a field in which each element is its own negative.
use Rattle.std.specs.Prelude.{◌≡◌, ◌<◌, ◌≤◌, ℕ, zero, suc}
use Rattle.std.proofs.Common.{sym, ◌∙◌, ap, arith}
use Rattle.bech32_gf.specs.Field.{Ops, IsField, IsCharacteristic, multiple}
use Rattle.bech32_gf.specs.laws.Ring as ring

-- each element is its own negative
abbrev pub HasCharacteristicTwo : {F : Type 0} → Ops F → Type 0
HasCharacteristicTwo {F} o = (x : F) → o.add x x ≡ o.zero

module _ {F : Type 0} {o : Ops F} (l : IsField o) (even : HasCharacteristicTwo o) where
  pub add_twice : (x : F) → o.add x x ≡ o.zero
  add_twice = even

  pub add_twice_more : (x y : F) → o.add x (o.add x y) ≡ y
  add_twice_more x y = sym (l.add_assoc x x y) ∙ ap (λ w. o.add w y) (even x) ∙ ring.zero_add l y

  -- brings an expression into a sum of different products in a fixed order, with `ring`
  pub ruleset even_sums = (add_twice, add_twice_more)

  pub square_of_sum : (a b : F) → o.mul (o.add a b) (o.add a b) ≡ o.add (o.mul a a) (o.mul b b)
  square_of_sum a b = simp (ring.ring, even_sums, l)

  -- the square of a is that of a + b, less that of b
  pub square_less : (a b : F) → o.add (o.mul (o.add a b) (o.add a b)) (o.mul b b) ≡ o.mul a a
  square_less a b = simp (ring.ring, even_sums, l)

  -- the characteristic is 2
  pub characteristic : IsCharacteristic o 2
  unfolding multiple
  characteristic = record {
    positive = omega arith;
    multiple_is_zero = ap (o.add o.one) (l.add_zero o.one) ∙ even o.one;
    least = λ n. at_least n;
  }
    where
      at_least : (n : ℕ) → 0 < n → multiple o o.one n ≡ o.zero → 2 ≤ n
      at_least zero some e = absurd (omega arith)
      at_least (suc zero) some e = absurd (l.one_not_zero (sym (l.add_zero o.one) ∙ e))
      at_least (suc (suc n)) some e = omega arith
