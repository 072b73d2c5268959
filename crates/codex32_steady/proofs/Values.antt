-- Values of sums and multiples, and weighted sums.
use Rattle.std.proofs.Common.{◌≡◌, suc, List, [], ◌∷◌, ◌++◌, length, sym, ap, ◌∙◌, refl, arith}
use Rattle.bech32_gf.specs.Field.{Ops, IsField, value_at}
use Rattle.bech32_gf.specs.laws.Ring.{ring, zero_add}
use Rattle.bech32_poly.specs.Polynomial.{add, scale}
use Rattle.codex32_steady.specs.shares.Points.{values_at, weighted_sum}

module _ {F : Type 0} {o : Ops F} (l : IsField o) where
  sums : (c d x v w : F) → o.add (o.add c d) (o.mul x (o.add v w)) ≡ o.add (o.add c (o.mul x v)) (o.add d (o.mul x w))
  sums c d x v w = simp (ring, l)

  pub value_at-add : (x : F) (p q : List F) → value_at o x (add o p q) ≡ o.add (value_at o x p) (value_at o x q)
  value_at-add x [] q = sym (zero_add l _)
  value_at-add x (c ∷ p) [] = sym (l.add_zero _)
  value_at-add x (c ∷ p) (d ∷ q) = ap (λ v. o.add (o.add c d) (o.mul x v)) (value_at-add x p q) ∙ sums c d x (value_at o x p) (value_at o x q)

  none : (k : F) → o.zero ≡ o.mul k o.zero
  none k = simp (ring, l)

  products : (k c x v : F) → o.add (o.mul k c) (o.mul x (o.mul k v)) ≡ o.mul k (o.add c (o.mul x v))
  products k c x v = simp (ring, l)

  pub value_at-scale : (x k : F) (p : List F) → value_at o x (scale o k p) ≡ o.mul k (value_at o x p)
  value_at-scale x k [] = none k
  value_at-scale x k (c ∷ p) = ap (λ v. o.add (o.mul k c) (o.mul x v)) (value_at-scale x k p) ∙ products k c x (value_at o x p)

  alone : (w y : F) → o.add (o.mul w y) o.zero ≡ o.add o.zero (o.mul w y)
  alone w y = simp (ring, l)

  -- one more at the end
  pub weighted_sum-more : (ws ys : List F) (w y : F) → length ws ≡ length ys → weighted_sum o (ws ++ (w ∷ [])) (ys ++ (y ∷ [])) ≡ o.add (weighted_sum o ws ys) (o.mul w y)
  weighted_sum-more [] [] w y e = alone w y
  weighted_sum-more [] (z ∷ ys) w y e = absurd (omega arith)
  weighted_sum-more (v ∷ ws) [] w y e = absurd (omega arith)
  weighted_sum-more (v ∷ ws) (z ∷ ys) w y e = ap (o.add (o.mul v z)) (weighted_sum-more ws ys w y (omega arith)) ∙ sym (l.add_assoc _ _ _)

  pub values_at-more : (p xs : List F) (x : F) → values_at o p (xs ++ (x ∷ [])) ≡ values_at o p xs ++ (value_at o x p ∷ [])
  values_at-more p [] x = refl
  values_at-more p (y ∷ xs) x = ap (λ u. value_at o y p ∷ u) (values_at-more p xs x)

  pub length-values_at : (p xs : List F) → length (values_at o p xs) ≡ length xs
  length-values_at p [] = refl
  length-values_at p (x ∷ xs) = ap suc (length-values_at p xs)
