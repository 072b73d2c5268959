-- What a list of coefficients does to a sequence.
use Rattle.std.proofs.Common.{◌≡◌, ℕ, zero, suc, ◌+◌, ◌<◌, List, [], ◌∷◌, length, sym, ap, ◌∙◌, refl}
use Rattle.std.proofs.Common.{arith}
use Rattle.bech32_gf.specs.Field.{Ops, IsField}
use Rattle.bech32_poly.specs.Window.{act, top_of}
use Rattle.bech32_gf.specs.laws.Ring.{ring}

pub at_zero : (n : ℕ) → n + 0 ≡ n
at_zero n = omega arith

pub at_suc : (n j : ℕ) → n + suc j ≡ suc n + j
at_suc n j = omega arith

module _ {K : Type 0} {o : Ops K} (l : IsField o) where
  -- s at the places that p reads is all that counts
  pub act-cong : (p : List K) (s s' : ℕ → K) (t : ℕ) → ((j : ℕ) → j < length p → s (t + j) ≡ s' (t + j)) → act o p s t ≡ act o p s' t
  act-cong [] s s' t h = refl
  act-cong (a ∷ p) s s' t h =
      let here : s t ≡ s' t = rw (at_zero t) at (h 0 (omega arith)) in
      let rest : act o p s (suc t) ≡ act o p s' (suc t) = act-cong p s s' (suc t) (λ j within. rw (at_suc t j) at (h (suc j) (omega arith))) in
      cc (here, rest)

  nothing_step : (a u : K) → u ≡ o.zero → o.add (o.mul a o.zero) u ≡ o.zero
  nothing_step a u e = rw e (simp (ring, l))

  pub act-nothing : (p : List K) (t : ℕ) → act o p (λ _. o.zero) t ≡ o.zero
  act-nothing [] t = refl
  act-nothing (a ∷ p) t = nothing_step a _ (act-nothing p (suc t))

  pub act-zero : (p : List K) (s : ℕ → K) (t : ℕ) → ((j : ℕ) → j < length p → s (t + j) ≡ o.zero) → act o p s t ≡ o.zero
  act-zero p s t h = act-cong p s (λ _. o.zero) t h ∙ act-nothing p t

  add_step : (a x y u v w : K) → w ≡ o.add u v → o.add (o.mul a (o.add x y)) w ≡ o.add (o.add (o.mul a x) u) (o.add (o.mul a y) v)
  add_step a x y u v w e = rw e (simp (ring, l))

  pub act-add : (p : List K) (s s' : ℕ → K) (t : ℕ) → act o p (λ n. o.add (s n) (s' n)) t ≡ o.add (act o p s t) (act o p s' t)
  act-add [] s s' t = simp (ring, l)
  act-add (a ∷ p) s s' t = add_step a (s t) (s' t) _ _ _ (act-add p s s' (suc t))

  scale_step : (a c x u w : K) → w ≡ o.mul c u → o.add (o.mul a (o.mul c x)) w ≡ o.mul c (o.add (o.mul a x) u)
  scale_step a c x u w e = rw e (simp (ring, l))

  pub act-times : (p : List K) (c : K) (s : ℕ → K) (t : ℕ) → act o p (λ n. o.mul c (s n)) t ≡ o.mul c (act o p s t)
  act-times [] c s t = simp (ring, l)
  act-times (a ∷ p) c s t = scale_step a c (s t) _ _ (act-times p c s (suc t))

  pub act-later : (p : List K) (s : ℕ → K) (t : ℕ) → act o p (λ n. s (suc n)) t ≡ act o p s (suc t)
  act-later [] s t = refl
  act-later (a ∷ p) s t = ap (o.add (o.mul a (s (suc t)))) (act-later p s (suc t))

  -- two lists act in either order
  pub act_comm : (p q : List K) (s : ℕ → K) (t : ℕ) → act o p (act o q s) t ≡ act o q (act o p s) t
  act_comm [] q s t = sym (act-nothing q t)
  act_comm (a ∷ p) q s t =
      ap (o.add (o.mul a (act o q s t))) (act_comm p q s (suc t))
      ∙ ap (λ w. o.add w (act o q (act o p s) (suc t))) (sym (act-times q a s t))
      ∙ ap (o.add (act o q (λ n. o.mul a (s n)) t)) (sym (act-later q (act o p s) t))
      ∙ sym (act-add q (λ n. o.mul a (s n)) (λ n. act o p s (suc n)) t)

  last_step : (a x u w : K) → x ≡ o.zero → u ≡ w → o.add (o.mul a x) u ≡ w
  last_step a x u w e f = rw (e, f) (simp (ring, l))

  one_place : (a x : K) → a ≡ o.one → o.add (o.mul a x) o.zero ≡ x
  one_place a x e = rw e (simp (ring, l))

  -- only the leading coefficient meets a value that may not be zero
  pub act-last : (p : List K) (m : ℕ) (s : ℕ → K) (t : ℕ) → top_of o p ≡ o.one → length p ≡ suc m → ((j : ℕ) → j < m → s (t + j) ≡ o.zero) → act o p s t ≡ s (t + m)
  act-last [] m s t e n h = absurd (omega arith)
  act-last (a ∷ []) m s t e n h =
      let none : m ≡ 0 = omega arith in
      let there : t + m ≡ t = omega arith in
      rw there (one_place a (s t) e)
  act-last (a ∷ b ∷ p) zero s t e n h = absurd (omega arith)
  act-last (a ∷ b ∷ p) (suc m) s t e n h =
      let here : s t ≡ o.zero = rw (at_zero t) at (h 0 (omega arith)) in
      let rest : act o (b ∷ p) s (suc t) ≡ s (suc t + m) = act-last (b ∷ p) m s (suc t) e (omega arith) (λ j within. rw (at_suc t j) at (h (suc j) (omega arith))) in
      rw (at_suc t m) (last_step a (s t) (act o (b ∷ p) s (suc t)) (s (suc t + m)) here rest)
