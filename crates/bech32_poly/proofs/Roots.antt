-- A polynomial has no more roots than its degree.
use Rattle.std.specs.List.{AllByRecursion}
use Rattle.std.proofs.Common.{◌≡◌, ℕ, zero, suc, ◌≤◌, List, [], ◌∷◌, length, subst, sym, ap, ◌∙◌, refl}
use Rattle.std.proofs.Common.{arith}
use Rattle.std.specs.Prelude.{◌≢◌}
use Rattle.bech32_gf.specs.Field.{Ops, IsField, value_at}
use Rattle.bech32_poly.specs.Window.{top_of}
use Rattle.bech32_poly.specs.Distinct.{IsNotAmong, IsOnce}
use Rattle.bech32_gf.specs.laws.Ring.{ring}
use Rattle.bech32_poly.proofs.Zero.{no_zero_divisors, difference_zero, difference}

-- p without the factor of the root a
abbrev pub quot : {K : Type 0} → Ops K → K → List K → List K
quot o a [] = []
quot o a (c ∷ []) = []
quot o a (c ∷ d ∷ p) = value_at o a (d ∷ p) ∷ quot o a (d ∷ p)

-- x is none of the list
module _ {K : Type 0} {o : Ops K} (l : IsField o) where
  constant : (c a h : K) → o.add c (o.mul (o.add a h) o.zero) ≡ o.add (o.add c (o.mul a o.zero)) (o.mul h o.zero)
  constant c a h = simp (ring, l)

  none : (h : K) → o.zero ≡ o.add o.zero (o.mul h o.zero)
  none h = simp (ring, l)

  factor_step : (c a h p q v : K) → v ≡ o.add p (o.mul h q) → o.add c (o.mul (o.add a h) v) ≡ o.add (o.add c (o.mul a p)) (o.mul h (o.add p (o.mul (o.add a h) q)))
  factor_step c a h p q v e = rw e (simp (ring, l))

  pub factor : (a h : K) (p : List K) → value_at o (o.add a h) p ≡ o.add (value_at o a p) (o.mul h (value_at o (o.add a h) (quot o a p)))
  factor a h [] = none h
  factor a h (c ∷ []) = constant c a h
  factor a h (c ∷ d ∷ p) = factor_step c a h (value_at o a (d ∷ p)) (value_at o (o.add a h) (quot o a (d ∷ p))) _ (factor a h (d ∷ p))

  pub length-quot : (a c : K) (p : List K) → length (quot o a (c ∷ p)) ≡ length p
  length-quot a c [] = refl
  length-quot a c (d ∷ p) = ap suc (length-quot a d p)

  one_left : (d a : K) → o.add d (o.mul a o.zero) ≡ d
  one_left d a = simp (ring, l)

  pub top_of-quot : (a c d : K) (p : List K) → top_of o (quot o a (c ∷ d ∷ p)) ≡ top_of o (c ∷ d ∷ p)
  top_of-quot a c d [] = one_left d a
  top_of-quot a c d (f ∷ p) = top_of-quot a d f p

  other_root : (a x : K) (p : List K) → value_at o a p ≡ o.zero → value_at o x p ≡ o.zero → a ≢ x → value_at o x (quot o a p) ≡ o.zero
  other_root a x p at_a at_x differ =
      let h : K = o.add x (o.neg a) in
      let sum : o.add a h ≡ x = sym (difference l x a) in
      let split : value_at o x p ≡ o.add (value_at o a p) (o.mul h (value_at o x (quot o a p))) = subst (λ y. value_at o y p ≡ o.add (value_at o a p) (o.mul h (value_at o y (quot o a p)))) sum (factor a h p) in
      no_zero_divisors l h (value_at o x (quot o a p)) (λ e. differ (sym (difference_zero l x a e))) (rest h (value_at o x (quot o a p)) (value_at o a p) (value_at o x p) at_a at_x split)
    where
      rest : (h q u v : K) → u ≡ o.zero → v ≡ o.zero → v ≡ o.add u (o.mul h q) → o.mul h q ≡ o.zero
      rest h q u v e f k = sym (zero_first (o.mul h q)) ∙ ap (λ w. o.add w (o.mul h q)) (sym e) ∙ sym k ∙ f
        where
          zero_first : (y : K) → o.add o.zero y ≡ y
          zero_first y = simp (ring, l)

  other_roots : (a : K) (p : List K) (xs : List K) → value_at o a p ≡ o.zero → IsNotAmong a xs → AllByRecursion (λ x. value_at o x p ≡ o.zero) xs → AllByRecursion (λ x. value_at o x (quot o a p) ≡ o.zero) xs
  other_roots a p [] at_a apart roots = tt
  other_roots a p (x ∷ xs) at_a apart roots = (other_root a x p at_a roots.0 apart.0, other_roots a p xs at_a apart.1 roots.1)

  single : (c x : K) → c ≢ o.zero → o.add c (o.mul x o.zero) ≡ o.zero → ⊥
  single c x n f = n (sym (one_left c x) ∙ f)

  -- with a highest coefficient that is not zero
  pub roots_within : (n : ℕ) (p xs : List K) → length p ≡ suc n → top_of o p ≢ o.zero → IsOnce xs → AllByRecursion (λ x. value_at o x p ≡ o.zero) xs → length xs ≤ n
  roots_within n p [] size leads once roots = omega arith
  roots_within n [] (x ∷ xs) size leads once roots = absurd (omega arith)
  roots_within n (c ∷ []) (x ∷ xs) size leads once roots = absurd (single c x leads roots.0)
  roots_within zero (c ∷ d ∷ p) (x ∷ xs) size leads once roots = absurd (omega arith)
  roots_within (suc n) (c ∷ d ∷ p) (x ∷ xs) size leads once roots =
      let smaller : length (quot o x (c ∷ d ∷ p)) ≡ suc n = length-quot x c (d ∷ p) ∙ omega arith in
      let fewer : length xs ≤ n = roots_within n (quot o x (c ∷ d ∷ p)) xs smaller (λ e. leads (sym (top_of-quot x c d p) ∙ e)) once.1 (other_roots x (c ∷ d ∷ p) xs roots.0 once.0 roots.1) in
      omega arith

  -- of a monic polynomial
  pub root_bound : (n : ℕ) (p xs : List K) → length p ≡ suc n → top_of o p ≡ o.one → IsOnce xs → AllByRecursion (λ x. value_at o x p ≡ o.zero) xs → length xs ≤ n
  root_bound n p xs size monic once roots = roots_within n p xs size (λ e. l.one_not_zero (sym monic ∙ e)) once roots
