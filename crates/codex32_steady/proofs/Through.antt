-- There is one polynomial through points.
use Rattle.std.proofs.Common.{◌≡◌, suc, List, [], ◌∷◌, length, sym, ap, ◌∙◌, refl, arith}
use Rattle.bech32_gf.specs.Field.{Ops, IsField, value_at}
use Rattle.bech32_gf.specs.laws.Ring.{ring, one_mul}
use Rattle.bech32_poly.specs.Distinct.{IsNotAmong, IsOnce}
use Rattle.bech32_poly.specs.Polynomial.{add, scale}
use Rattle.bech32_poly.proofs.Lists.{same_cons, length-scale, length-add}
use Rattle.bech32_poly.proofs.Zero.{difference, difference_zero}
use Rattle.codex32_steady.specs.shares.Points.{values_at, weighted_sum, AreWeights, IsThrough, IsValueThrough}
use Rattle.codex32_steady.proofs.Values.{value_at-add, value_at-scale}
use Rattle.codex32_steady.proofs.OnePlaceMore.{weights_exist}

-- the slopes from the point at x, y
abbrev pub slopes : {F : Type 0} → Ops F → F → F → List F → List F → List F
slopes o x y [] vs = []
slopes o x y (u ∷ us) [] = []
slopes o x y (u ∷ us) (v ∷ vs) = o.mul (o.add v (o.neg y)) (o.inv (o.add u (o.neg x))) ∷ slopes o x y us vs

-- y plus q times the polynomial that is zero at x alone
abbrev pub raised : {F : Type 0} → Ops F → F → F → List F → List F
raised o x y q = add o (y ∷ q) (scale o (o.neg x) q)

module _ {F : Type 0} {o : Ops F} (l : IsField o) where
  sorted : (x y z v : F) → o.add (o.add y (o.mul z v)) (o.mul (o.neg x) v) ≡ o.add y (o.mul (o.add z (o.neg x)) v)
  sorted x y z v = simp (ring, l)

  value_at-raised : (x y z : F) (q : List F) → value_at o z (raised o x y q) ≡ o.add y (o.mul (o.add z (o.neg x)) (value_at o z q))
  value_at-raised x y z q = value_at-add l z (y ∷ q) (scale o (o.neg x) q) ∙ ap (o.add (o.add y (o.mul z (value_at o z q)))) (value_at-scale l z (o.neg x) q) ∙ sorted x y z (value_at o z q)

  here : (x y v : F) → o.add y (o.mul (o.add x (o.neg x)) v) ≡ y
  here x y v = simp (ring, l)

  there : (y v d i : F) → o.mul d i ≡ o.one → o.add y (o.mul d (o.mul (o.add v (o.neg y)) i)) ≡ v
  there y v d i e = normal ∙ ap (λ u. o.add y (o.mul u (o.add v (o.neg y)))) e ∙ last
    where
      normal : o.add y (o.mul d (o.mul (o.add v (o.neg y)) i)) ≡ o.add y (o.mul (o.mul d i) (o.add v (o.neg y)))
      normal = simp (ring, l)

      last : o.add y (o.mul o.one (o.add v (o.neg y))) ≡ v
      last = ap (o.add y) (one_mul l (o.add v (o.neg y))) ∙ sym (difference l v y)

  others : (x y : F) (us vs q : List F) → length us ≡ length vs → IsNotAmong x us → values_at o q us ≡ slopes o x y us vs → values_at o (raised o x y q) us ≡ vs
  others x y [] [] q e apart have = refl
  others x y [] (v ∷ vs) q e apart have = absurd (omega arith)
  others x y (u ∷ us) [] q e apart have = absurd (omega arith)
  others x y (u ∷ us) (v ∷ vs) q e apart have =
      let d : F = o.add u (o.neg x) in
      let first : value_at o u q ≡ o.mul (o.add v (o.neg y)) (o.inv d) = cc in
      let rest : values_at o q us ≡ slopes o x y us vs = cc in
      same_cons _ _ _ _ (value_at-raised x y u q ∙ ap (λ w. o.add y (o.mul d w)) first ∙ there y v d (o.inv d) (l.mul_inv d (λ z. apart.0 (sym (difference_zero l u x z))))) (others x y us vs q (omega arith) apart.1 rest)

  length-slopes : (x y : F) (us vs : List F) → length us ≡ length vs → length (slopes o x y us vs) ≡ length us
  length-slopes x y [] vs e = refl
  length-slopes x y (u ∷ us) [] e = absurd (omega arith)
  length-slopes x y (u ∷ us) (v ∷ vs) e = ap suc (length-slopes x y us vs (omega arith))

  -- there is one
  pub through_exists : (xs ys : List F) → length xs ≡ length ys → IsOnce xs → (p : List F) × IsThrough o xs ys p
  through_exists [] [] e once = ([], record { short = omega arith; values = refl })
  through_exists [] (y ∷ ys) e once = absurd (omega arith)
  through_exists (x ∷ xs) [] e once = absurd (omega arith)
  through_exists (x ∷ xs) (y ∷ ys) e once =
      let size : length (slopes o x y xs ys) ≡ length xs = length-slopes x y xs ys (omega arith) in
      let below : (q : List F) × IsThrough o xs (slopes o x y xs ys) q = through_exists xs (slopes o x y xs ys) (sym size) once.1 in
      let q : List F = below.0 in
      let scaled : length (scale o (o.neg x) q) ≡ length q = length-scale l (o.neg x) q in
      let long : length (raised o x y q) ≡ length (y ∷ q) = length-add l (y ∷ q) (scale o (o.neg x) q) (omega (arith, scaled)) in (
        raised o x y q,
        record {
          short = omega (arith, long, below.1.short);
          values = same_cons _ _ _ _ (value_at-raised x y x q ∙ here x y (value_at o x q)) (others x y xs ys q (omega arith) once.0 below.1.values);
        },
      )

  -- two have the same value everywhere
  pub through_unique : (xs ys p q : List F) → IsOnce xs → IsThrough o xs ys p → IsThrough o xs ys q → (x : F) → value_at o x p ≡ value_at o x q
  through_unique xs ys p q once a b x =
      let ws : (ws : List F) × AreWeights o xs x ws = weights_exist l x xs once in
      sym (ws.1.gives p a.short) ∙ ap (weighted_sum o ws.0) (a.values ∙ sym b.values) ∙ ws.1.gives q b.short

  -- there is one value at x
  pub value_exists : (xs ys : List F) (x : F) → length xs ≡ length ys → IsOnce xs → (y : F) × IsValueThrough o xs ys x y
  value_exists xs ys x e once =
      let p : (p : List F) × IsThrough o xs ys p = through_exists xs ys e once in
      (value_at o x p.0, record { polynomial = p.0; through = p.1; value = refl })

  pub value_unique : (xs ys : List F) (x y z : F) → IsOnce xs → IsValueThrough o xs ys x y → IsValueThrough o xs ys x z → y ≡ z
  value_unique xs ys x y z once a b = a.value ∙ through_unique xs ys a.polynomial b.polynomial once a.through b.through x ∙ sym b.value

  -- weights give it
  pub weighted_is : (xs ys ws : List F) (x : F) → length xs ≡ length ys → IsOnce xs → AreWeights o xs x ws → IsValueThrough o xs ys x (weighted_sum o ws ys)
  weighted_is xs ys ws x e once are =
      let p : (p : List F) × IsThrough o xs ys p = through_exists xs ys e once in
      record { polynomial = p.0; through = p.1; value = ap (weighted_sum o ws) (sym p.1.values) ∙ are.gives p.0 p.1.short }
