-- Products that are not zero, and powers.
use Rattle.std.proofs.Common.{◌≡◌, ℕ, zero, suc, ◌+◌, ◌<◌, ◌≤◌, ◌-◌, sym, ap, ◌∙◌}
use Rattle.std.proofs.Common.{arith}
use Rattle.std.specs.Prelude.{◌≢◌}
use Rattle.bech32_gf.specs.Field.{Ops, IsField, power, IsOrder}
use Rattle.bech32_gf.specs.laws.FieldLaws.{power-add, power-of_one, power-of_product}
use Rattle.bech32_gf.specs.laws.Ring.{neg_unique, neg_neg, mul_zero, one_mul}

module _ {K : Type 0} {o : Ops K} (l : IsField o) where
  inverse_out : (x y i : K) → o.mul x i ≡ o.one → o.mul i (o.mul x y) ≡ y
  inverse_out x y i e = sym (l.mul_assoc i x y) ∙ ap (λ w. o.mul w y) (l.mul_comm i x ∙ e) ∙ one_mul l y

  pub no_zero_divisors : (x y : K) → x ≢ o.zero → o.mul x y ≡ o.zero → y ≡ o.zero
  no_zero_divisors x y n e = sym (inverse_out x y (o.inv x) (l.mul_inv x n)) ∙ ap (o.mul (o.inv x)) e ∙ mul_zero l (o.inv x)

  pub product_not_zero : (x y : K) → x ≢ o.zero → y ≢ o.zero → o.mul x y ≢ o.zero
  product_not_zero x y n m e = m (no_zero_divisors x y n e)

  pub mul_cancel : (x y z : K) → x ≢ o.zero → o.mul x y ≡ o.mul x z → y ≡ z
  mul_cancel x y z n e = sym (inverse_out x y (o.inv x) (l.mul_inv x n)) ∙ ap (o.mul (o.inv x)) e ∙ inverse_out x z (o.inv x) (l.mul_inv x n)

  pub difference_zero : (x y : K) → o.add x (o.neg y) ≡ o.zero → x ≡ y
  difference_zero x y e = sym (neg_neg l x) ∙ ap o.neg (sym (neg_unique l x (o.neg y) e)) ∙ neg_neg l y

  pub difference : (x y : K) → x ≡ o.add y (o.add x (o.neg y))
  difference x y = sym (ap (λ w. w) (l.add_comm y (o.add x (o.neg y)) ∙ l.add_assoc x (o.neg y) y ∙ ap (o.add x) (l.add_comm (o.neg y) y ∙ l.add_neg y) ∙ l.add_zero x))

  pub power_not_zero : (x : K) → x ≢ o.zero → (n : ℕ) → power o x n ≢ o.zero
  unfolding power
  power_not_zero x h zero = l.one_not_zero
  power_not_zero x h (suc n) = product_not_zero x (power o x n) h (power_not_zero x h n)

  pub power-swap : (x : K) (m n : ℕ) → power o (power o x m) n ≡ power o (power o x n) m
  unfolding power
  power-swap x zero n = power-of_one l n
  power-swap x (suc m) n = power-of_product l x (power o x m) n ∙ ap (o.mul (power o x n)) (power-swap x m n)

  pub power_distinct : (x : K) (k i j : ℕ) → IsOrder o x k → x ≢ o.zero → i < j → j < k → power o x i ≢ power o x j
  power_distinct x k i j order h less below e =
      let m : ℕ = j - i in
      let sum : j ≡ i + m = omega arith in
      let most : k ≤ m = order.least m (omega arith) (mul_cancel (power o x i) (power o x m) o.one (power_not_zero x h i) (sym (power-add l x i m) ∙ ap (power o x) (sym sum) ∙ sym e ∙ sym (l.mul_one (power o x i)))) in
      absurd (omega arith)
