-- The operations of a field and their laws.
use Rattle.std.specs.Prelude.{◌≡◌, ◌≢◌, ◌↔◌, ◌<◌, ◌≤◌, ◌^◌, ℕ, ℤ}
use Rattle.std.specs.Prelude.{pos, negsuc, zero, suc, List, [], ◌∷◌}
use Rattle.std.specs.List.{Contains}
use Rattle.std.specs.List.Sorted.{IsStrictlyIncreasing}
use Prim.Native.Nat.{◌∣◌}

-- the operations on the elements of a field
pub record Ops (F : Type 0) : Type 0 where
  pub zero : F
  pub one : F
  pub add : F → F → F
  pub mul : F → F → F
  pub neg : F → F
  pub inv : F → F

-- the field axioms, with equality that can be decided
pub record IsField {F : Type 0} (o : Ops F) : Type 0 where
  pub add_assoc : (x y z : F) → o.add (o.add x y) z ≡ o.add x (o.add y z)
  pub add_comm : (x y : F) → o.add x y ≡ o.add y x
  pub add_zero : (x : F) → o.add x o.zero ≡ x
  pub add_neg : (x : F) → o.add x (o.neg x) ≡ o.zero
  pub mul_assoc : (x y z : F) → o.mul (o.mul x y) z ≡ o.mul x (o.mul y z)
  pub mul_comm : (x y : F) → o.mul x y ≡ o.mul y x
  pub mul_one : (x : F) → o.mul x o.one ≡ x
  pub distrib : (x y z : F) → o.mul x (o.add y z) ≡ o.add (o.mul x y) (o.mul x z)
  pub mul_inv : (x : F) → x ≢ o.zero → o.mul x (o.inv x) ≡ o.one
  pub one_not_zero : o.one ≢ o.zero
  pub same_or_not : (x y : F) → Dec (x ≡ y)

-- the n-fold product
unfoldable pub power : {F : Type 0} → Ops F → F → ℕ → F
power o x zero = o.one
power o x (suc n) = o.mul x (power o x n)

-- the n-fold sum
unfoldable pub multiple : {F : Type 0} → Ops F → F → ℕ → F
multiple o x zero = o.zero
multiple o x (suc n) = o.add x (multiple o x n)

-- the power by a signed number: that of the inverse where the number is negative
abbrev pub signed_power : {F : Type 0} → Ops F → F → ℤ → F
signed_power o x (pos n) = power o x n
signed_power o x (negsuc n) = power o (o.inv x) (suc n)

-- the multiple by a signed number: that of the negative where the number is negative
abbrev pub signed_multiple : {F : Type 0} → Ops F → F → ℤ → F
signed_multiple o x (pos n) = multiple o x n
signed_multiple o x (negsuc n) = multiple o (o.neg x) (suc n)

-- the value at x of the polynomial with these coefficients, the constant one first
abbrev pub value_at : {F : Type 0} → Ops F → F → List F → F
value_at o x [] = o.zero
value_at o x (c ∷ cs) = o.add c (o.mul x (value_at o x cs))

-- k is the order of x: the least number from 1 on whose power of x is one
pub record IsOrder {F : Type 0} (o : Ops F) (x : F) (k : ℕ) : Type 0 where
  pub positive : 0 < k
  pub power_is_one : power o x k ≡ o.one
  pub least : (n : ℕ) → 0 < n → power o x n ≡ o.one → k ≤ n

-- k is the characteristic: the least number from 1 on whose multiple of one is zero
pub record IsCharacteristic {F : Type 0} (o : Ops F) (k : ℕ) : Type 0 where
  pub positive : 0 < k
  pub multiple_is_zero : multiple o o.one k ≡ o.zero
  pub least : (n : ℕ) → 0 < n → multiple o o.one n ≡ o.zero → k ≤ n

-- the list has each divisor of n, and nothing else, in rising order
pub record ListsDivisors (n : ℕ) (divisors : List ℕ) : Type 0 where
  pub rising : IsStrictlyIncreasing divisors
  pub all : (d : ℕ) → Contains divisors d ↔ (d ∣ n)

-- the map gives of a sum the sum of what it gives
abbrev pub KeepsSums : {A B : Type 0} → Ops A → Ops B → (A → B) → Type 0
KeepsSums {A} a b f = (x y : A) → f (a.add x y) ≡ b.add (f x) (f y)

-- the map gives of a product the product of what it gives
abbrev pub KeepsProducts : {A B : Type 0} → Ops A → Ops B → (A → B) → Type 0
KeepsProducts {A} a b f = (x y : A) → f (a.mul x y) ≡ b.mul (f x) (f y)

-- n is from 1 on, and fits an i64
pub record IsPositiveI64 (n : ℕ) : Type 0 where
  pub positive : 0 < n
  pub below : n < 2 ^ 63
