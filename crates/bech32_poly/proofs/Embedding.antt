-- A polynomial whose coefficients are embedded in a larger field has one value with its remainder at a root of the generator.
use Rattle.std.proofs.Common.{◌≡◌, ℕ, zero, suc, List, [], ◌∷◌, ◌++◌, length, map, sym, ap, ◌∙◌, refl}
use Rattle.bech32_gf.specs.Field.{Ops, IsField, power, value_at}
use Rattle.bech32_poly.specs.Polynomial.{add, scale}
use Rattle.bech32_poly.specs.Division.{zeros, top, push, remainder_of}
use Rattle.bech32_poly.proofs.Remainder.{length-remainder_of}
use Rattle.bech32_poly.specs.Remainder.{monic}
use Rattle.bech32_poly.specs.Embedding.{value_in, Embeds}
use Rattle.bech32_gf.specs.laws.Ring.{ring, add_cancel, neg_unique}

module _ {F K : Type 0} {f : Ops F} {o : Ops K} (fl : IsField f) (l : IsField o) {embed : F → K} (into : Embeds f o embed) where
  pub embed-zero : embed f.zero ≡ o.zero
  embed-zero = add_cancel l (embed f.zero) (embed f.zero) o.zero (sym (into.add f.zero f.zero) ∙ ap embed (fl.add_zero f.zero) ∙ sym (l.add_zero (embed f.zero)))

  pub embed-neg : (x : F) → embed (f.neg x) ≡ o.neg (embed x)
  embed-neg x = neg_unique l (embed x) (embed (f.neg x)) (sym (into.add x (f.neg x)) ∙ ap embed (fl.add_neg x) ∙ embed-zero)

  none_first : (x : K) → x ≡ o.add o.zero x
  none_first x = simp (ring, l)

  none_last : (x : K) → x ≡ o.add x o.zero
  none_last x = simp (ring, l)

  sum_each : (a b x u v w z : K) → z ≡ o.add a b → w ≡ o.add u v → o.add z (o.mul x w) ≡ o.add (o.add a (o.mul x u)) (o.add b (o.mul x v))
  sum_each a b x u v w z e k = rw (e, k) (simp (ring, l))

  pub value_in-add : (p q : List F) (x : K) → value_in o embed (add f p q) x ≡ o.add (value_in o embed p x) (value_in o embed q x)
  value_in-add [] q x = none_first _
  value_in-add (a ∷ p) [] x = none_last _
  value_in-add (a ∷ p) (b ∷ q) x = sum_each (embed a) (embed b) x _ _ _ _ (into.add a b) (value_in-add p q x)

  scale_none : (c : K) → o.zero ≡ o.mul c o.zero
  scale_none c = simp (ring, l)

  scale_each : (c a x u w z : K) → z ≡ o.mul c a → w ≡ o.mul c u → o.add z (o.mul x w) ≡ o.mul c (o.add a (o.mul x u))
  scale_each c a x u w z e k = rw (e, k) (simp (ring, l))

  pub value_in-scale : (c : F) (p : List F) (x : K) → value_in o embed (scale f c p) x ≡ o.mul (embed c) (value_in o embed p x)
  value_in-scale c [] x = scale_none (embed c)
  value_in-scale c (a ∷ p) x = scale_each (embed c) (embed a) x _ _ _ (into.mul c a) (value_in-scale c p x)

  only_one : (a x : K) → o.add o.zero (o.mul a o.one) ≡ o.add a (o.mul x o.zero)
  only_one a x = simp (ring, l)

  push_each : (a x u t pw b v : K) → o.add u (o.mul t pw) ≡ o.add b (o.mul x v) → o.add (o.add a (o.mul x u)) (o.mul t (o.mul x pw)) ≡ o.add a (o.mul x (o.add b (o.mul x v)))
  push_each a x u t pw b v e = turned ∙ ap (λ w. o.add a (o.mul x w)) e
    where
      turned : o.add (o.add a (o.mul x u)) (o.mul t (o.mul x pw)) ≡ o.add a (o.mul x (o.add u (o.mul t pw)))
      turned = simp (ring, l)

  value_in-push : (a : F) (r : List F) (x : K) → o.add (value_in o embed (push a r) x) (o.mul (embed (top a r)) (power o x (length r))) ≡ o.add (embed a) (o.mul x (value_in o embed r x))
  unfolding power
  value_in-push a [] x = only_one (embed a) x
  value_in-push a (b ∷ r) x = push_each (embed a) x (value_in o embed (push b r) x) (embed (top b r)) (power o x (length r)) (embed b) (value_in o embed r x) (value_in-push b r x)

  last_each : (c x u b pw w : K) → w ≡ o.add u (o.mul b pw) → o.add c (o.mul x w) ≡ o.add (o.add c (o.mul x u)) (o.mul b (o.mul x pw))
  last_each c x u b pw w e = rw e (simp (ring, l))

  last_only : (b x : K) → o.add b (o.mul x o.zero) ≡ o.add o.zero (o.mul b o.one)
  last_only b x = simp (ring, l)

  value_in-last : (g : List F) (b : F) (x : K) → value_in o embed (g ++ (b ∷ [])) x ≡ o.add (value_in o embed g x) (o.mul (embed b) (power o x (length g)))
  unfolding power
  value_in-last [] b x = last_only (embed b) x
  value_in-last (c ∷ g) b x = last_each (embed c) x _ (embed b) _ _ (value_in-last g b x)

  -- a root of the generator gives a polynomial and its remainder one value
  pub root_of_generator : (g p : List F) (x : K) → value_in o embed (monic f g) x ≡ o.zero → value_in o embed (remainder_of f g p) x ≡ value_in o embed p x
  root_of_generator g [] x root = nothing (length g)
    where
      nothing : (n : ℕ) → value_in o embed (zeros f n) x ≡ o.zero
      nothing zero = refl
      nothing (suc n) = each _ _ embed-zero (nothing n)
        where
          each : (u v : K) → u ≡ o.zero → v ≡ o.zero → o.add u (o.mul x v) ≡ o.zero
          each u v e k = rw (e, k) (simp (ring, l))
  root_of_generator g (a ∷ p) x root =
      value_in-add (push a r) (scale f (f.neg (top a r)) g) x
      ∙ ap (o.add (value_in o embed (push a r) x)) (value_in-scale (f.neg (top a r)) g x ∙ ap (λ w. o.mul w (value_in o embed g x)) (embed-neg (top a r)))
      ∙ divided_out (value_in o embed (push a r) x) (embed (top a r)) (value_in o embed g x) (power o x (length r)) leads
      ∙ value_in-push a r x
      ∙ ap (λ w. o.add (embed a) (o.mul x w)) (root_of_generator g p x root)
    where
      r : List F
      r = remainder_of f g p

      leads : power o x (length r) ≡ o.neg (value_in o embed g x)
      leads = ap (power o x) (length-remainder_of fl g p) ∙ neg_unique l (value_in o embed g x) (power o x (length g)) (sym (value_in-last g f.one x ∙ ap (o.add (value_in o embed g x)) lone) ∙ root)
        where
          lone : o.mul (embed f.one) (power o x (length g)) ≡ power o x (length g)
          lone = ap (λ w. o.mul w (power o x (length g))) into.one ∙ first (power o x (length g))
            where
              first : (w : K) → o.mul o.one w ≡ w
              first w = simp (ring, l)

      divided_out : (u t v pw : K) → pw ≡ o.neg v → o.add u (o.mul (o.neg t) v) ≡ o.add u (o.mul t pw)
      divided_out u t v pw e = rw e (simp (ring, l))

  -- the generator may be made monic before or after its coefficients are embedded
  pub value_in-monic : (g : List F) (x : K) → value_in o embed (monic f g) x ≡ value_at o x (monic o (map embed g))
  value_in-monic [] x = ap (λ y. o.add y (o.mul x o.zero)) into.one
  value_in-monic (c ∷ g) x = ap (λ y. o.add (embed c) (o.mul x y)) (value_in-monic g x)
