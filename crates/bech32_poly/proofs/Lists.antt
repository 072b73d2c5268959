-- Sums and multiples of lists of coefficients.
use Rattle.std.proofs.Common.{◌≡◌, ℕ, zero, suc, ◌≤◌, List, [], ◌∷◌, length, sym, ap, ◌∙◌, refl, arith}
use Rattle.bech32_gf.specs.Field.{Ops, IsField}
use Rattle.bech32_poly.specs.Polynomial.{coefficient, add, scale}
use Rattle.bech32_poly.specs.Division.{zeros}
use Rattle.bech32_gf.specs.laws.Ring.{ring}

-- equal heads and equal tails
pub same_cons : {F : Type 0} → (a b : F) (p q : List F) → a ≡ b → p ≡ q → a ∷ p ≡ b ∷ q
same_cons a b p q e f = cc

module _ {F : Type 0} {o : Ops F} (l : IsField o) where
  pub length-scale : (c : F) (p : List F) → length (scale o c p) ≡ length p
  length-scale c [] = refl
  length-scale c (a ∷ p) = ap suc (length-scale c p)

  pub length-add : (p q : List F) → length q ≤ length p → length (add o p q) ≡ length p
  length-add [] [] h = refl
  length-add [] (b ∷ q) h = absurd (omega arith)
  length-add (a ∷ p) [] h = refl
  length-add (a ∷ p) (b ∷ q) h = ap suc (length-add p q (omega arith))

  pub length-zeros : (n : ℕ) → length (zeros o n) ≡ n
  length-zeros zero = refl
  length-zeros (suc n) = ap suc (length-zeros n)

  pub coefficient-zeros : (n i : ℕ) → coefficient o (zeros o n) i ≡ o.zero
  coefficient-zeros zero i = refl
  coefficient-zeros (suc n) zero = refl
  coefficient-zeros (suc n) (suc i) = coefficient-zeros n i

  pub add_comm : (p q : List F) → add o p q ≡ add o q p
  add_comm [] [] = refl
  add_comm [] (b ∷ q) = refl
  add_comm (a ∷ p) [] = refl
  add_comm (a ∷ p) (b ∷ q) = same_cons _ _ _ _ (l.add_comm a b) (add_comm p q)

  pub add_assoc : (p q r : List F) → add o (add o p q) r ≡ add o p (add o q r)
  add_assoc [] q r = refl
  add_assoc (a ∷ p) [] r = refl
  add_assoc (a ∷ p) (b ∷ q) [] = refl
  add_assoc (a ∷ p) (b ∷ q) (c ∷ r) = same_cons _ _ _ _ (l.add_assoc a b c) (add_assoc p q r)

  pub add_left_comm : (p q r : List F) → add o p (add o q r) ≡ add o q (add o p r)
  add_left_comm p q r = sym (add_assoc p q r) ∙ ap (λ u. add o u r) (add_comm p q) ∙ add_assoc q p r

  distrib_right : (x y a : F) → o.mul (o.add x y) a ≡ o.add (o.mul x a) (o.mul y a)
  distrib_right x y a = simp (ring, l)

  pub scale-add_elements : (x y : F) (p : List F) → scale o (o.add x y) p ≡ add o (scale o x p) (scale o y p)
  scale-add_elements x y [] = refl
  scale-add_elements x y (a ∷ p) = same_cons _ _ _ _ (distrib_right x y a) (scale-add_elements x y p)

  pub scale-add : (c : F) (p q : List F) → scale o c (add o p q) ≡ add o (scale o c p) (scale o c q)
  scale-add c [] q = refl
  scale-add c (a ∷ p) [] = refl
  scale-add c (a ∷ p) (b ∷ q) = same_cons _ _ _ _ (l.distrib c a b) (scale-add c p q)

  pub scale-scale : (c d : F) (p : List F) → scale o c (scale o d p) ≡ scale o (o.mul c d) p
  scale-scale c d [] = refl
  scale-scale c d (a ∷ p) = same_cons _ _ _ _ (sym (l.mul_assoc c d a)) (scale-scale c d p)

  zero_add : (a : F) → o.add o.zero a ≡ a
  zero_add a = simp (ring, l)

  pub zeros-add : (n : ℕ) (r : List F) → length r ≡ n → add o (zeros o n) r ≡ r
  zeros-add zero r e = refl
  zeros-add (suc n) [] e = absurd (omega arith)
  zeros-add (suc n) (a ∷ r) e = same_cons _ _ _ _ (zero_add a) (zeros-add n r (omega arith))

  mul_zero : (c : F) → o.mul c o.zero ≡ o.zero
  mul_zero c = simp (ring, l)

  pub scale-zeros : (c : F) (n : ℕ) → scale o c (zeros o n) ≡ zeros o n
  scale-zeros c zero = refl
  scale-zeros c (suc n) = same_cons _ _ _ _ (mul_zero c) (scale-zeros c n)

  zero_mul : (a : F) → o.mul o.zero a ≡ o.zero
  zero_mul a = simp (ring, l)

  pub scale-zero : (p : List F) → scale o o.zero p ≡ zeros o (length p)
  scale-zero [] = refl
  scale-zero (a ∷ p) = same_cons _ _ _ _ (zero_mul a) (scale-zero p)

  pub coefficient-add : (p q : List F) (n : ℕ) → coefficient o (add o p q) n ≡ o.add (coefficient o p n) (coefficient o q n)
  coefficient-add [] q n = sym (zero_add (coefficient o q n))
  coefficient-add (a ∷ p) [] zero = sym (l.add_zero a)
  coefficient-add (a ∷ p) [] (suc n) = sym (l.add_zero (coefficient o p n))
  coefficient-add (a ∷ p) (b ∷ q) zero = refl
  coefficient-add (a ∷ p) (b ∷ q) (suc n) = coefficient-add p q n

  pub coefficient-scale : (c : F) (p : List F) (n : ℕ) → coefficient o (scale o c p) n ≡ o.mul c (coefficient o p n)
  coefficient-scale c [] n = sym (mul_zero c)
  coefficient-scale c (a ∷ p) zero = refl
  coefficient-scale c (a ∷ p) (suc n) = coefficient-scale c p n

  added_and_taken : (a : F) → o.add a (o.mul (o.neg o.one) a) ≡ o.zero
  added_and_taken a = simp (ring, l)

  -- a polynomial less itself
  pub add-negative : (p : List F) → add o p (scale o (o.neg o.one) p) ≡ zeros o (length p)
  add-negative [] = refl
  add-negative (a ∷ p) = same_cons _ _ _ _ (added_and_taken a) (add-negative p)
