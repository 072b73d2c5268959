-- What follows from the field axioms for powers, multiples and orders.
use Rattle.std.specs.Prelude.{◌≡◌, ◌≢◌, ◌<◌, ◌≤◌, ◌+◌, ◌*◌, ◌/◌, ◌%◌}
use Rattle.std.specs.Prelude.{ℕ, zero, suc, List, length, slice_index}
use Rattle.std.proofs.Common.{refl, sym, ◌∙◌, ap, subst, arith, zero-add, ⊎_elim}
use Rattle.std.proofs.Math.Nat.{suc-add, eq-or-lt_of_le}
use Rattle.std.proofs.lemmas.Bool.{cases_lt}
use Rattle.std.proofs.lemmas.List.{get_or_default}
use Rattle.std.proofs.lemmas.List.Kept.{AllPairs-from_increasing}
use Rattle.std.proofs.lemmas.Nat.Gcd.{dvd_refl, dvd-zero, le_of_dvd}
use native.Mathlib.Nat.{dvd-mod_iff, eq-zero_of_zero-dvd}
use Prim.Native.Nat.{◌∣◌}
use Rattle.bech32_gf.specs.Field.{Ops, IsField, power, multiple, IsOrder, ListsDivisors}

-- each element of a list of divisors divides
pub divides-from_place : (n : ℕ) (divisors : List ℕ) → ListsDivisors n divisors
    → (k : ℕ) → k < length divisors → slice_index divisors k ∣ n
divides-from_place n divisors lists k within =
    (lists.all (slice_index divisors k)).0
    (k, within, get_or_default divisors k (slice_index divisors k) 0 within)

-- a divisor of a number from 1 on is from 1 on
pub positive_divisor : (n d : ℕ) → 0 < n → d ∣ n → 0 < d
positive_divisor n zero some h = let e : n ≡ 0 = eq-zero_of_zero-dvd h in omega arith
positive_divisor n (suc d) some h = omega arith

module _ {F : Type 0} {o : Ops F} (l : IsField o) where
  pub mul_left_comm : (x y z : F) → o.mul x (o.mul y z) ≡ o.mul y (o.mul x z)
  mul_left_comm x y z =
      sym (l.mul_assoc x y z) ∙ ap (λ w. o.mul w z) (l.mul_comm x y) ∙ l.mul_assoc y x z

  pub one_mul : (x : F) → o.mul o.one x ≡ x
  one_mul x = l.mul_comm o.one x ∙ l.mul_one x

  pub zero_add : (x : F) → o.add o.zero x ≡ x
  zero_add x = l.add_comm o.zero x ∙ l.add_zero x

  -- ---- powers

  pub power-zero : (x : F) → power o x 0 ≡ o.one
  unfolding power
  power-zero x = refl

  pub power-suc : (x : F) (n : ℕ) → power o x (suc n) ≡ o.mul x (power o x n)
  unfolding power
  power-suc x n = refl

  pub power-one : (x : F) → power o x 1 ≡ x
  unfolding power
  power-one x = l.mul_one x

  pub power-of_one : (n : ℕ) → power o o.one n ≡ o.one
  unfolding power
  power-of_one zero = refl
  power-of_one (suc n) = one_mul (power o o.one n) ∙ power-of_one n

  pub power-add : (x : F) (m n : ℕ) → power o x (m + n) ≡ o.mul (power o x m) (power o x n)
  unfolding power
  power-add x zero n = rw zero-add (sym (one_mul (power o x n)))
  power-add x (suc m) n = rw (suc-add, l.mul_assoc) (ap (o.mul x) (power-add x m n))

  pub power-of_product : (x y : F) (n : ℕ)
      → power o (o.mul x y) n ≡ o.mul (power o x n) (power o y n)
  unfolding power
  power-of_product x y zero = sym (l.mul_one o.one)
  power-of_product x y (suc n) =
      ap (o.mul (o.mul x y)) (power-of_product x y n)
      ∙ l.mul_assoc x y (o.mul (power o x n) (power o y n))
      ∙ ap (o.mul x) (mul_left_comm y (power o x n) (power o y n))
      ∙ sym (l.mul_assoc x (power o x n) (o.mul y (power o y n)))

  pub power-mul : (x : F) (m n : ℕ) → power o x (m * n) ≡ power o (power o x m) n
  power-mul x m zero =
      let e : m * zero ≡ 0 = omega arith in rw e (power-zero x ∙ sym (power-zero (power o x m)))
  power-mul x m (suc n) =
      let e : m * suc n ≡ m + m * n = omega arith in
      rw e (power-add x m (m * n) ∙ ap (o.mul (power o x m)) (power-mul x m n)
      ∙ sym (power-suc (power o x m) n))

  -- ---- multiples

  pub multiple-zero : (x : F) → multiple o x 0 ≡ o.zero
  unfolding multiple
  multiple-zero x = refl

  pub multiple-suc : (x : F) (n : ℕ) → multiple o x (suc n) ≡ o.add x (multiple o x n)
  unfolding multiple
  multiple-suc x n = refl

  pub multiple-add : (x : F) (m n : ℕ)
      → multiple o x (m + n) ≡ o.add (multiple o x m) (multiple o x n)
  unfolding multiple
  multiple-add x zero n = rw zero-add (sym (zero_add (multiple o x n)))
  multiple-add x (suc m) n = rw (suc-add, l.add_assoc) (ap (o.add x) (multiple-add x m n))

  pub multiple-of_zero : (n : ℕ) → multiple o o.zero n ≡ o.zero
  unfolding multiple
  multiple-of_zero zero = refl
  multiple-of_zero (suc n) = zero_add (multiple o o.zero n) ∙ multiple-of_zero n

  pub multiple-mul : (x : F) (m n : ℕ) → multiple o x (m * n) ≡ multiple o (multiple o x m) n
  multiple-mul x m zero =
      let e : m * zero ≡ 0 = omega arith in
      rw e (multiple-zero x ∙ sym (multiple-zero (multiple o x m)))
  multiple-mul x m (suc n) =
      let e : m * suc n ≡ m + m * n = omega arith in
      rw e (multiple-add x m (m * n) ∙ ap (o.add (multiple o x m)) (multiple-mul x m n)
      ∙ sym (multiple-suc (multiple o x m) n))

  zero-from_same_sum : (x y : F) → o.add x y ≡ x → y ≡ o.zero
  zero-from_same_sum x y e =
      let moved : o.add (o.add x y) (o.neg x) ≡ y =
      l.add_comm (o.add x y) (o.neg x) ∙ sym (l.add_assoc (o.neg x) x y)
      ∙ ap (λ w. o.add w y) (l.add_comm (o.neg x) x ∙ l.add_neg x) ∙ zero_add y
      in sym moved ∙ ap (λ w. o.add w (o.neg x)) e ∙ l.add_neg x

  pub mul_zero : (x : F) → o.mul x o.zero ≡ o.zero
  mul_zero x =
      zero-from_same_sum (o.mul x o.zero) (o.mul x o.zero)
      (sym (l.distrib x o.zero o.zero) ∙ ap (o.mul x) (l.add_zero o.zero))

  -- a multiple is the product with that multiple of one
  pub multiple-by_one : (x : F) (n : ℕ) → multiple o x n ≡ o.mul x (multiple o o.one n)
  unfolding multiple
  multiple-by_one x zero = sym (mul_zero x)
  multiple-by_one x (suc n) =
      ap (o.add x) (multiple-by_one x n)
      ∙ ap (λ w. o.add w (o.mul x (multiple o o.one n))) (sym (l.mul_one x))
      ∙ sym (l.distrib x o.one (multiple o o.one n))

  -- only the remainder of a multiple counts, where a multiple of one is zero
  pub multiple_mod : (x : F) (n p : ℕ) → multiple o o.one p ≡ o.zero
      → multiple o x (n % p) ≡ multiple o x n
  multiple_mod x n p e =
      let nothing : multiple o x p ≡ o.zero = multiple-by_one x p ∙ ap (o.mul x) e ∙ mul_zero x in
      let split : p * (n / p) + n % p ≡ n = omega arith in
      let whole : multiple o x (p * (n / p)) ≡ o.zero =
      multiple-mul x p (n / p) ∙ ap (λ w. multiple o w (n / p)) nothing ∙ multiple-of_zero (n / p)
      in sym (zero_add (multiple o x (n % p)))
      ∙ ap (λ w. o.add w (multiple o x (n % p))) (sym whole)
      ∙ sym (multiple-add x (p * (n / p)) (n % p)) ∙ ap (multiple o x) split

  -- ---- orders

  pub zero_mul : (x : F) → o.mul o.zero x ≡ o.zero
  zero_mul x = l.mul_comm o.zero x ∙ mul_zero x

  -- an element that has an order is not zero
  pub IsOrder-not_zero : (x : F) (k : ℕ) → IsOrder o x k → x ≢ o.zero
  IsOrder-not_zero x zero order e = absurd (let some : 0 < 0 = order.positive in omega arith)
  IsOrder-not_zero x (suc k) order e =
      l.one_not_zero
      (sym order.power_is_one ∙ power-suc x k ∙ ap (λ w. o.mul w (power o x k)) e
      ∙ zero_mul (power o x k))

  -- only the remainder of a power counts, where a power is one
  pub power_mod : (x : F) (n k : ℕ) → power o x k ≡ o.one → power o x (n % k) ≡ power o x n
  power_mod x n k e =
      let split : k * (n / k) + n % k ≡ n = omega arith in
      let whole : power o x (k * (n / k)) ≡ o.one =
      power-mul x k (n / k) ∙ ap (λ w. power o w (n / k)) e ∙ power-of_one (n / k)
      in sym (one_mul (power o x (n % k))) ∙ ap (λ w. o.mul w (power o x (n % k))) (sym whole)
      ∙ sym (power-add x (k * (n / k)) (n % k)) ∙ ap (power o x) split

  -- two numbers whose powers of x are one have a common divisor whose power is one
  pub common_divisor : (x : F) (bound a b : ℕ) → b < bound → power o x a ≡ o.one
      → power o x b ≡ o.one
      → (g : ℕ) × (g ∣ a) × (g ∣ b) × (power o x g ≡ o.one)
  common_divisor x zero a b h ea eb = absurd (omega arith)
  common_divisor x (suc bound) a zero h ea eb = (a, dvd_refl a, dvd-zero a, ea)
  common_divisor x (suc bound) a (suc b) h ea eb =
      let less : a % suc b < bound = omega arith in
      let r = common_divisor x bound (suc b) (a % suc b) less eb (power_mod x a (suc b) eb ∙ ea) in
      (r.0, (dvd-mod_iff r.0 r.1).0 r.2, r.1, r.3)

  -- the place of a divisor of n whose power of x is one, at most as large as any number
  -- from 1 on whose power is one
  divisor_below : (x : F) (n : ℕ) (divisors : List ℕ) → ListsDivisors n divisors
      → power o x n ≡ o.one
      → (m : ℕ) → 0 < m → power o x m ≡ o.one
      → (k : ℕ) × (k < length divisors) × (power o x (slice_index divisors k) ≡ o.one)
      × (slice_index divisors k ≤ m)
  divisor_below x n divisors lists e m some em =
      let r = common_divisor x (suc m) n m (omega arith) e em in
      let at = (lists.all r.0).1 r.1 in
      let same : slice_index divisors at.0 ≡ r.0 = get_or_default divisors at.0 0 r.0 at.1 ∙ at.2 in
      (at.0, at.1, ap (power o x) same ∙ r.3, rw same (le_of_dvd some r.2))

  -- the first divisor whose power is one is the order
  pub IsOrder-from_first : (x : F) (n : ℕ) (divisors : List ℕ) → 0 < n → ListsDivisors n divisors
      → power o x n ≡ o.one
      → (i : ℕ) → i < length divisors
      → ((k : ℕ) → k < i → power o x (slice_index divisors k) ≢ o.one)
      → power o x (slice_index divisors i) ≡ o.one
      → IsOrder o x (slice_index divisors i)
  IsOrder-from_first x n divisors some lists e i within before here = record {
    positive =
        positive_divisor n (slice_index divisors i) some
        (divides-from_place n divisors lists i within);
    power_is_one = here;
    least = λ m more em.
        let r = divisor_below x n divisors lists e m more em in
        ⊎_elim
        (λ (early : r.0 < i). absurd (before r.0 early r.2))
        (λ (late : i ≤ r.0).
        ⊎_elim
        (λ (same : i ≡ r.0). subst (λ k. slice_index divisors k ≤ m) (sym same) r.3)
        (λ (less : i < r.0).
        let rises : slice_index divisors i < slice_index divisors r.0 =
        AllPairs-from_increasing divisors lists.rising i r.0 0 less r.1 in
        omega arith)
        (eq-or-lt_of_le late))
        (cases_lt r.0 i);
  }

  -- n is the order, where no power by another divisor of it is one
  pub IsOrder-from_divisors : (x : F) (n : ℕ) (divisors : List ℕ) → 0 < n → ListsDivisors n divisors
      → power o x n ≡ o.one
      → ((k : ℕ) → k < length divisors → slice_index divisors k ≢ n
      → power o x (slice_index divisors k) ≢ o.one)
      → IsOrder o x n
  IsOrder-from_divisors x n divisors some lists e others = record {
    positive = some;
    power_is_one = e;
    least = λ m more em.
        let r = divisor_below x n divisors lists e m more em in
        let at_most : slice_index divisors r.0 ≤ n =
        le_of_dvd some (divides-from_place n divisors lists r.0 r.1) in
        ⊎_elim
        (λ (same : slice_index divisors r.0 ≡ n). omega arith)
        (λ (less : slice_index divisors r.0 < n). absurd (others r.0 r.1 (λ same. omega arith) r.2))
        (eq-or-lt_of_le at_most);
  }
