-- What sums, multiples and shifts of lists of coefficients do to a sequence.
use Rattle.std.proofs.Common.{◌≡◌, ℕ, zero, suc, ◌+◌, ◌<◌, List, [], ◌∷◌, ◌++◌, length, ap, ◌∙◌, refl}
use Rattle.std.proofs.Common.{arith}
use Rattle.bech32_gf.specs.Field.{Ops, IsField}
use Rattle.bech32_poly.specs.Polynomial.{add, scale}
use Rattle.bech32_poly.specs.Window.{act, top_of, shifted}
use Rattle.bech32_gf.specs.laws.Ring.{ring}

pub shifted-push : {K : Type 0} (o : Ops K) (n : ℕ) (p : List K) (y : K) → shifted o n p ++ (y ∷ []) ≡ shifted o n (p ++ (y ∷ []))
shifted-push o zero p y = refl
shifted-push o (suc n) p y = ap (λ u. o.zero ∷ u) (shifted-push o n p y)

pub shifted-more : {K : Type 0} (o : Ops K) (n : ℕ) → shifted o n [] ++ (o.zero ∷ []) ≡ shifted o (n + 1) []
shifted-more o n = let e : n + 1 ≡ suc n = omega arith in rw e (more n)
  where
    more : (n : ℕ) → shifted o n [] ++ (o.zero ∷ []) ≡ shifted o (suc n) []
    more zero = refl
    more (suc n) = ap (λ u. o.zero ∷ u) (more n)

module _ {K : Type 0} {o : Ops K} (l : IsField o) where
  pub length-shifted : (n : ℕ) (p : List K) → length (shifted o n p) ≡ n + length p
  length-shifted zero p = omega arith
  length-shifted (suc n) p = let e : length (shifted o n p) ≡ n + length p = length-shifted n p in omega arith

  pub top_of-shifted : (n : ℕ) (a : K) (p : List K) → top_of o (shifted o n (a ∷ p)) ≡ top_of o (a ∷ p)
  top_of-shifted zero a p = refl
  top_of-shifted (suc zero) a p = refl
  top_of-shifted (suc (suc n)) a p = top_of-shifted (suc n) a p

  pub top_of-add : (p q : List K) → length q < length p → top_of o (add o p q) ≡ top_of o p
  top_of-add [] q h = absurd (omega arith)
  top_of-add (a ∷ p) [] h = refl
  top_of-add (a ∷ []) (b ∷ q) h = absurd (omega arith)
  top_of-add (a ∷ c ∷ p) (b ∷ []) h = refl
  top_of-add (a ∷ c ∷ p) (b ∷ d ∷ q) h = top_of-add (c ∷ p) (d ∷ q) (omega arith)

  sum_none : (u : K) → u ≡ o.add o.zero u
  sum_none u = simp (ring, l)

  sum_none_right : (u : K) → u ≡ o.add u o.zero
  sum_none_right u = simp (ring, l)

  sum_step : (a b x u v w : K) → w ≡ o.add u v → o.add (o.mul (o.add a b) x) w ≡ o.add (o.add (o.mul a x) u) (o.add (o.mul b x) v)
  sum_step a b x u v w e = rw e (simp (ring, l))

  pub act-add : (p q : List K) (s : ℕ → K) (t : ℕ) → act o (add o p q) s t ≡ o.add (act o p s t) (act o q s t)
  act-add [] q s t = sum_none _
  act-add (a ∷ p) [] s t = sum_none_right _
  act-add (a ∷ p) (b ∷ q) s t = sum_step a b (s t) _ _ _ (act-add p q s (suc t))

  times_none : (c : K) → o.zero ≡ o.mul c o.zero
  times_none c = simp (ring, l)

  times_step : (a c x u w : K) → w ≡ o.mul c u → o.add (o.mul (o.mul c a) x) w ≡ o.mul c (o.add (o.mul a x) u)
  times_step a c x u w e = rw e (simp (ring, l))

  pub act-scale : (c : K) (p : List K) (s : ℕ → K) (t : ℕ) → act o (scale o c p) s t ≡ o.mul c (act o p s t)
  act-scale c [] s t = times_none c
  act-scale c (a ∷ p) s t = times_step a c (s t) _ _ (act-scale c p s (suc t))

  shift_step : (x u : K) → o.add (o.mul o.zero x) u ≡ u
  shift_step x u = simp (ring, l)

  pub act-shifted : (n : ℕ) (p : List K) (s : ℕ → K) (t : ℕ) → act o (shifted o n p) s t ≡ act o p s (n + t)
  act-shifted zero p s t = let e : zero + t ≡ t = omega arith in rw e
  act-shifted (suc n) p s t = let e : suc n + t ≡ n + suc t = omega arith in rw e (shift_step (s t) _ ∙ act-shifted n p s (suc t))
