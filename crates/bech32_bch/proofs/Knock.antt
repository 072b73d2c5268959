-- How a term is taken out of a sum of powers.
use Rattle.std.specs.Prelude.{◌==◌, cond, true, false}
use Rattle.std.specs.List.{AllByRecursion}
use Rattle.std.proofs.Common.{◌≡◌, ℕ, suc, ◌+◌, ◌<◌, List, [], ◌∷◌, map, length, ◌⊎◌, inl, inr, sym, ap, ◌∙◌, refl}
use Rattle.std.proofs.lemmas.Bool.Decides.{eqb_tells}
use Rattle.std.proofs.Common.{arith}
use Rattle.std.specs.Prelude.{◌≢◌}
use Rattle.bech32_poly.specs.Distinct.{IsAmong}
use Rattle.bech32_gf.specs.Field.{Ops, IsField, power}
use Rattle.bech32_poly.specs.Pattern.{power_sum, value_of_pattern_at}
use Rattle.bech32_gf.specs.laws.Ring.{ring}
use Rattle.bech32_bch.specs.Knock.{knock, knocks, gap}

module _ {K : Type 0} {o : Ops K} (l : IsField o) where
  knock_step : (v c z y pt w w' x : K) → x ≡ o.add w' (o.neg (o.mul y w)) → o.add (o.add (o.mul (o.mul v c) (o.mul z pt)) w') (o.neg (o.mul y (o.add (o.mul (o.mul v c) pt) w))) ≡ o.add (o.mul (o.mul v (o.mul (o.add z (o.neg y)) c)) pt) x
  knock_step v c z y pt w w' x e = rw e (simp (ring, l))

  knock_none : (y : K) → o.add o.zero (o.neg (o.mul y o.zero)) ≡ o.zero
  knock_none y = simp (ring, l)

  pub knock-power_sum : (loc c : ℕ → K) (e : List (ℕ × K)) (y : K) (t : ℕ) → knock o y (power_sum o loc c e) t ≡ power_sum o loc (λ m. o.mul (o.add (loc m) (o.neg y)) (c m)) e t
  unfolding power
  knock-power_sum loc c [] y t = knock_none y
  knock-power_sum loc c (p ∷ e) y t = knock_step p.1 (c p.0) (loc p.0) y (power o (loc p.0) t) (power_sum o loc c e t) (power_sum o loc c e (suc t)) _ (sym (knock-power_sum loc c e y t))

  -- equal weights, equal sums
  pub power_sum-cong : (loc c c' : ℕ → K) (e : List (ℕ × K)) (t : ℕ) → ((m : ℕ) → c m ≡ c' m) → power_sum o loc c e t ≡ power_sum o loc c' e t
  power_sum-cong loc c c' [] t h = refl
  power_sum-cong loc c c' (p ∷ e) t h =
      let here : c p.0 ≡ c' p.0 = h p.0 in
      let rest : power_sum o loc c e t ≡ power_sum o loc c' e t = power_sum-cong loc c c' e t h in
      cc (here, rest)

  one_step : (c : K) → c ≡ o.mul o.one c
  one_step c = simp (ring, l)

  pub knocks-power_sum : (loc c : ℕ → K) (e : List (ℕ × K)) (ys : List K) (t : ℕ) → knocks o ys (power_sum o loc c e) t ≡ power_sum o loc (λ m. o.mul (gap o (loc m) ys) (c m)) e t
  knocks-power_sum loc c e [] t = power_sum-cong loc c _ e t (λ m. one_step (c m))
  knocks-power_sum loc c e (y ∷ ys) t =
      let now : knocks o ys (power_sum o loc c e) t ≡ power_sum o loc (λ m. o.mul (gap o (loc m) ys) (c m)) e t = knocks-power_sum loc c e ys t in
      let next : knocks o ys (power_sum o loc c e) (suc t) ≡ power_sum o loc (λ m. o.mul (gap o (loc m) ys) (c m)) e (suc t) = knocks-power_sum loc c e ys (suc t) in
      let both : knocks o (y ∷ ys) (power_sum o loc c e) t ≡ knock o y (power_sum o loc (λ m. o.mul (gap o (loc m) ys) (c m)) e) t = cc (now, next) in
      both ∙ knock-power_sum loc (λ m. o.mul (gap o (loc m) ys) (c m)) e y t
      ∙ power_sum-cong loc _ _ e t (λ m. sym (l.mul_assoc (o.add (loc m) (o.neg y)) (gap o (loc m) ys) (c m)))

  -- the sequence matters only at the places that are read
  pub knocks-cong : (ys : List K) (s s' : ℕ → K) (n t : ℕ) → ((j : ℕ) → j < n → s j ≡ s' j) → length ys + t < n → knocks o ys s t ≡ knocks o ys s' t
  knocks-cong [] s s' n t h within = h t (omega arith)
  knocks-cong (y ∷ ys) s s' n t h within =
      let now : knocks o ys s t ≡ knocks o ys s' t = knocks-cong ys s s' n t h (omega arith) in
      let next : knocks o ys s (suc t) ≡ knocks o ys s' (suc t) = knocks-cong ys s s' n (suc t) h (omega arith) in
      cc (now, next)

  gap_here : (y z g : K) → y ≡ z → o.mul (o.add y (o.neg z)) g ≡ o.zero
  gap_here y z g e = rw e (simp (ring, l))

  gap_there : (d g : K) → g ≡ o.zero → o.mul d g ≡ o.zero
  gap_there d g e = rw e (simp (ring, l))

  pub gap-zero : (loc : ℕ → K) (m : ℕ) (ms : List ℕ) → IsAmong m ms → gap o (loc m) (map loc ms) ≡ o.zero
  gap-zero loc m [] h = absurd h
  gap-zero loc m (i ∷ ms) (inl e) = gap_here (loc m) (loc i) (gap o (loc m) (map loc ms)) (ap loc e)
  gap-zero loc m (i ∷ ms) (inr h) = gap_there _ _ (gap-zero loc m ms h)

  here_step : (x v c g pt a w ci gi pi : K) → x ≡ v → c ≡ ci → g ≡ gi → pt ≡ pi → w ≡ o.mul a (o.mul (o.mul ci gi) pi) → o.add (o.mul (o.mul v (o.mul g c)) pt) w ≡ o.mul (o.add x a) (o.mul (o.mul ci gi) pi)
  here_step x v c g pt a w ci gi pi is e f h k = rw (is, e, f, h, k) (simp (ring, l))

  gone_step : (u v c g pt a w x : K) → u ≡ o.zero → o.mul g c ≡ o.zero → w ≡ o.mul a x → o.add (o.mul (o.mul v (o.mul g c)) pt) w ≡ o.mul (o.add u a) x
  gone_step u v c g pt a w x is e f = rw (is, e, f) (simp (ring, l))

  no_weight : (g c : K) → c ≡ o.zero → o.mul g c ≡ o.zero
  no_weight g c e = rw e (simp (ring, l))

  no_gap : (g c : K) → g ≡ o.zero → o.mul g c ≡ o.zero
  no_gap g c e = rw e (simp (ring, l))

  none_step : (x : K) → o.zero ≡ o.mul o.zero x
  none_step x = simp (ring, l)

  -- each pair is at i, or at a place of ms, or of no weight
  abbrev pub Covered : (ℕ → K) → ℕ → List ℕ → List (ℕ × K) → Type 0
  Covered c i ms = AllByRecursion (λ (p : ℕ × K). (p.0 ≡ i) ⊎ IsAmong p.0 ms ⊎ (c p.0 ≡ o.zero))

  -- with the other locators knocked out, the value at i is left
  isolated : (loc c : ℕ → K) (i : ℕ) (ms : List ℕ) (e : List (ℕ × K)) (t : ℕ) → Covered c i ms e →
      power_sum o loc (λ m. o.mul (gap o (loc m) (map loc ms)) (c m)) e t ≡ o.mul (value_of_pattern_at o e i) (o.mul (o.mul (c i) (gap o (loc i) (map loc ms))) (power o (loc i) t))
  isolated loc c i ms [] t h = none_step _
  isolated loc c i ms (p ∷ e) t h =
      let rest : power_sum o loc (λ m. o.mul (gap o (loc m) (map loc ms)) (c m)) e t ≡ o.mul (value_of_pattern_at o e i) (o.mul (o.mul (c i) (gap o (loc i) (map loc ms))) (power o (loc i) t)) = isolated loc c i ms e t h.1 in
      step (eqb_tells p.0 i) h.0 rest
    where
      g : ℕ → K
      g m = gap o (loc m) (map loc ms)

      step : ((p.0 == i) ≡ true × (p.0 ≡ i)) ⊎ ((p.0 == i) ≡ false × (p.0 ≢ i)) → (p.0 ≡ i) ⊎ IsAmong p.0 ms ⊎ (c p.0 ≡ o.zero) →
          power_sum o loc (λ m. o.mul (gap o (loc m) (map loc ms)) (c m)) e t ≡ o.mul (value_of_pattern_at o e i) (o.mul (o.mul (c i) (gap o (loc i) (map loc ms))) (power o (loc i) t)) →
          power_sum o loc (λ m. o.mul (gap o (loc m) (map loc ms)) (c m)) (p ∷ e) t ≡ o.mul (value_of_pattern_at o (p ∷ e) i) (o.mul (o.mul (c i) (gap o (loc i) (map loc ms))) (power o (loc i) t))
      step (inl y) k rest = here_step _ p.1 _ _ _ (value_of_pattern_at o e i) _ _ _ _ (ap (λ b. cond b p.1 o.zero) y.0) (ap c y.1) (ap (λ m. gap o (loc m) (map loc ms)) y.1) (ap (λ m. power o (loc m) t) y.1) rest
      step (inr n) (inl k) rest = absurd (n.1 k)
      step (inr n) (inr (inl k)) rest = gone_step _ p.1 _ _ _ _ _ _ (ap (λ b. cond b p.1 o.zero) n.0) (no_gap _ (c p.0) (gap-zero loc p.0 ms k)) rest
      step (inr n) (inr (inr k)) rest = gone_step _ p.1 _ _ _ _ _ _ (ap (λ b. cond b p.1 o.zero) n.0) (no_weight (gap o (loc p.0) (map loc ms)) _ k) rest

  pub isolate : (loc c : ℕ → K) (i : ℕ) (ms : List ℕ) (e : List (ℕ × K)) (t : ℕ) → Covered c i ms e →
      knocks o (map loc ms) (power_sum o loc c e) t ≡ o.mul (value_of_pattern_at o e i) (o.mul (o.mul (c i) (gap o (loc i) (map loc ms))) (power o (loc i) t))
  isolate loc c i ms e t h = knocks-power_sum loc c e (map loc ms) t ∙ isolated loc c i ms e t h
