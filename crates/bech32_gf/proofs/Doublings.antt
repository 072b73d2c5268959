-- Powers by squarings, and multiples by doublings.
use Rattle.std.proofs.Common.{◌≡◌, ◌+◌, ◌/◌, ◌%◌, ◌≤◌, ◌-◌, ℕ, zero, suc, ℤ, pos, negsuc, true, false, ◌∷◌, refl, sym, ◌∙◌, ap, arith}
use Rattle.std.specs.Prelude.{Option, Some, None, unsigned_abs}
use Rattle.std.specs.Option.{SomeIff}
use Rattle.std.proofs.Math.Dec.{leb-zero}
use lib.Signed.{le_z}
use Rattle.bech32_gf.specs.Field.{Ops, IsField, power, multiple, signed_power, signed_multiple}
use Rattle.bech32_gf.specs.laws.FieldLaws.{power-zero, power-one, power-suc, power-add, multiple-zero, multiple-suc, multiple_mod, one_mul, zero_add}
use Rattle.bech32_gf.specs.Powers.{multiplied, powers_of, count_with_next}

module _ {F : Type 0} {o : Ops F} (l : IsField o) where
  power-square : (x : F) (n : ℕ) → power o (o.mul x x) n ≡ power o x (n + n)
  power-square x zero = power-zero l (o.mul x x) ∙ sym (power-zero l x)
  power-square x (suc n) =
      let e : suc n + suc n ≡ suc (suc (n + n)) = omega arith in
      rw e
      (power-suc l (o.mul x x) n ∙ ap (o.mul (o.mul x x)) (power-square x n) ∙ l.mul_assoc x x (power o x (n + n))
      ∙ ap (o.mul x) (sym (power-suc l x (n + n))) ∙ sym (power-suc l x (suc (n + n))))

  -- one step of a power by squarings, at an even and at an odd number
  pub power_even : (x r : F) (n : ℕ) → n % 2 ≡ 0 → o.mul r (power o (o.mul x x) (n / 2)) ≡ o.mul r (power o x n)
  power_even x r n even =
      let e : n / 2 + n / 2 ≡ n = omega arith in ap (o.mul r) (power-square x (n / 2) ∙ ap (power o x) e)

  pub power_odd : (x r : F) (n : ℕ) → n % 2 ≡ 1 → o.mul (o.mul r x) (power o (o.mul x x) (n / 2)) ≡ o.mul r (power o x n)
  power_odd x r n odd =
      let e : suc (n / 2 + n / 2) ≡ n = omega arith in
      l.mul_assoc r x (power o (o.mul x x) (n / 2))
      ∙ ap (λ w. o.mul r (o.mul x w)) (power-square x (n / 2))
      ∙ ap (o.mul r) (sym (power-suc l x (n / 2 + n / 2)) ∙ ap (power o x) e)

  multiple-double : (x : F) (n : ℕ) → multiple o (o.add x x) n ≡ multiple o x (n + n)
  multiple-double x zero = multiple-zero l (o.add x x) ∙ sym (multiple-zero l x)
  multiple-double x (suc n) =
      let e : suc n + suc n ≡ suc (suc (n + n)) = omega arith in
      rw e
      (multiple-suc l (o.add x x) n ∙ ap (o.add (o.add x x)) (multiple-double x n) ∙ l.add_assoc x x (multiple o x (n + n))
      ∙ ap (o.add x) (sym (multiple-suc l x (n + n))) ∙ sym (multiple-suc l x (suc (n + n))))

  -- one step of a multiple by doublings, at an even and at an odd number
  pub multiple_even : (x s : F) (n : ℕ) → n % 2 ≡ 0 → o.add s (multiple o (o.add x x) (n / 2)) ≡ o.add s (multiple o x n)
  multiple_even x s n even =
      let e : n / 2 + n / 2 ≡ n = omega arith in ap (o.add s) (multiple-double x (n / 2) ∙ ap (multiple o x) e)

  pub multiple_odd : (x s : F) (n : ℕ) → n % 2 ≡ 1 → o.add (o.add s x) (multiple o (o.add x x) (n / 2)) ≡ o.add s (multiple o x n)
  multiple_odd x s n odd =
      let e : suc (n / 2 + n / 2) ≡ n = omega arith in
      l.add_assoc s x (multiple o (o.add x x) (n / 2))
      ∙ ap (λ w. o.add s (o.add x w)) (multiple-double x (n / 2))
      ∙ ap (o.add s) (sym (multiple-suc l x (n / 2 + n / 2)) ∙ ap (multiple o x) e)

  pub power_next : (x : F) (n : ℕ) → o.mul (power o x n) x ≡ power o x (n + 1)
  power_next x n = ap (o.mul (power o x n)) (sym (power-one l x)) ∙ sym (power-add l x n 1)

  -- powers by products, each with the one before
  pub multiplied-powers : (x : F) (n count : ℕ) → multiplied o x (power o x n) count ≡ powers_of o x n count
  multiplied-powers x n zero = refl
  multiplied-powers x n (suc count) =
      ap (λ ys. power o x n ∷ ys) (ap (λ y. multiplied o x y count) (power_next x n) ∙ multiplied-powers x (n + 1) count)

  -- the power by a signed number, from its size

  pub signed_power-from_size : (x : F) (z : ℤ) → le_z (pos 0) z ≡ true → power o x (unsigned_abs z) ≡ signed_power o x z
  signed_power-from_size x (pos n) h = refl
  signed_power-from_size x (negsuc n) h = cc

  pub signed_power-from_negative_size : (x : F) (z : ℤ) → le_z (pos 0) z ≡ false → power o (o.inv x) (unsigned_abs z) ≡ signed_power o x z
  signed_power-from_negative_size x (pos n) h = let t = leb-zero n in cc
  signed_power-from_negative_size x (negsuc n) h = refl

  pub signed_multiple-from_size : (x : F) (z : ℤ) → le_z (pos 0) z ≡ true → multiple o x (unsigned_abs z) ≡ signed_multiple o x z
  signed_multiple-from_size x (pos n) h = refl
  signed_multiple-from_size x (negsuc n) h = cc

  pub signed_multiple-from_negative_size : (x : F) (z : ℤ) → le_z (pos 0) z ≡ false → multiple o (o.neg x) (unsigned_abs z) ≡ signed_multiple o x z
  signed_multiple-from_negative_size x (pos n) h = let t = leb-zero n in cc
  signed_multiple-from_negative_size x (negsuc n) h = refl

  -- where the loops begin

  pub power_begins : (r first y : F) (n size : ℕ) → first ≡ o.one → n ≡ size → power o y size ≡ r → o.mul first (power o y n) ≡ r
  power_begins r first y n size is_one same e =
      ap (λ w. o.mul w (power o y n)) is_one ∙ one_mul l (power o y n) ∙ ap (power o y) same ∙ e

  pub multiple_begins : (r first y : F) (n size p q : ℕ) → first ≡ o.zero → n ≡ size → q ≡ p → multiple o o.one p ≡ o.zero
      → multiple o y size ≡ r → o.add first (multiple o y (n % q)) ≡ r
  multiple_begins r first y n size p q is_zero same char none e =
      ap (λ w. o.add w (multiple o y (n % q))) is_zero ∙ zero_add l (multiple o y (n % q))
      ∙ ap (λ k. multiple o y (n % k)) char ∙ multiple_mod l y n p none ∙ ap (multiple o y) same ∙ e

  -- where they end

  pub power_ends : (r product y : F) (left : ℕ) → left ≤ 0 → o.mul product (power o y left) ≡ r → product ≡ r
  power_ends r product y left none e =
      let nothing : left ≡ 0 = omega arith in
      sym (l.mul_one product) ∙ ap (o.mul product) (sym (power-zero l y) ∙ ap (power o y) (sym nothing)) ∙ e

  pub multiple_ends : (r sum y : F) (left : ℕ) → left ≤ 0 → o.add sum (multiple o y left) ≡ r → sum ≡ r
  multiple_ends r sum y left none e =
      let nothing : left ≡ 0 = omega arith in
      sym (l.add_zero sum) ∙ ap (o.add sum) (sym (multiple-zero l y) ∙ ap (multiple o y) (sym nothing)) ∙ e

-- one fewer follows each item
pub count_with_next-after : (more : ℕ) (after : Option ℕ) → SomeIff after (1 ≤ more) (more - 1) → count_with_next after ≡ more
count_with_next-after zero None h = refl
count_with_next-after zero (Some n) h = absurd (omega arith)
count_with_next-after (suc more) None h = absurd (h (omega arith))
count_with_next-after (suc more) (Some n) h = let e : n ≡ suc more - 1 = h.1 in omega arith
