-- Two patterns with the same sums of powers, at few locations, are the same.
use Rattle.std.specs.Prelude.{◌==◌, cond, Bool, true, false}
use Rattle.std.specs.List.{AllByRecursion}
use Rattle.std.proofs.Common.{◌≡◌, ℕ, suc, ◌+◌, ◌<◌, ◌≤◌, List, [], ◌∷◌, map, length, ◌⊎◌, inl, inr, subst, sym, ap, ◌∙◌, refl}
use Rattle.std.proofs.lemmas.Bool.Decides.{eqb_tells}
use Rattle.std.proofs.Common.{arith}
use Rattle.std.specs.Prelude.{◌≢◌}
use Rattle.bech32_poly.specs.Distinct.{IsAmong}
use Rattle.bech32_gf.specs.Field.{Ops, IsField, power}
use Rattle.bech32_poly.specs.Pattern.{value_of_pattern_at}
use Rattle.bech32_gf.specs.laws.Ring.{ring}
use Rattle.bech32_bch.specs.Knock.{without, knocks, gap}
use Rattle.bech32_poly.proofs.Zero.{product_not_zero, difference_zero, mul_cancel}
use Rattle.bech32_poly.specs.Pattern.{power_sum}
use Rattle.bech32_bch.proofs.Knock.{knocks-cong, isolate, Covered}

pub mem-without : (m i : ℕ) (ms : List ℕ) → IsAmong m ms → m ≢ i → IsAmong m (without i ms)
mem-without m i [] h n = h
mem-without m i (k ∷ ms) h n = step (eqb_tells k i) h (λ r. mem-without m i ms r n)
  where
    step : ((k == i) ≡ true × (k ≡ i)) ⊎ ((k == i) ≡ false × (k ≢ i)) → (m ≡ k) ⊎ IsAmong m ms → (IsAmong m ms → IsAmong m (without i ms)) → IsAmong m (cond (k == i) (without i ms) (k ∷ without i ms))
    step (inl y) (inl e) r = absurd (n (e ∙ y.1))
    step (inl y) (inr h) r = subst (λ b. IsAmong m (cond b (without i ms) (k ∷ without i ms))) (sym y.0) (r h)
    step (inr y) (inl e) r = subst (λ b. IsAmong m (cond b (without i ms) (k ∷ without i ms))) (sym y.0) (inl e)
    step (inr y) (inr h) r = subst (λ b. IsAmong m (cond b (without i ms) (k ∷ without i ms))) (sym y.0) (inr (r h))

pub length-without : (i : ℕ) (ms : List ℕ) → length (without i ms) ≤ length ms
length-without i [] = omega arith
length-without i (k ∷ ms) = step (k == i) (length-without i ms)
  where
    step : (b : Bool) → length (without i ms) ≤ length ms → length (cond b (without i ms) (k ∷ without i ms)) ≤ suc (length ms)
    step true h = omega arith
    step false h = omega arith

pub length-without_mem : (i : ℕ) (ms : List ℕ) → IsAmong i ms → length (without i ms) < length ms
length-without_mem i [] h = absurd h
length-without_mem i (k ∷ ms) h = step (eqb_tells k i) h (λ r. length-without_mem i ms r) (length-without i ms)
  where
    step : ((k == i) ≡ true × (k ≡ i)) ⊎ ((k == i) ≡ false × (k ≢ i)) → (i ≡ k) ⊎ IsAmong i ms → (IsAmong i ms → length (without i ms) < length ms) → length (without i ms) ≤ length ms → length (cond (k == i) (without i ms) (k ∷ without i ms)) < suc (length ms)
    step (inl y) h r u = subst (λ b. length (cond b (without i ms) (k ∷ without i ms)) < suc (length ms)) (sym y.0) (omega arith)
    step (inr y) (inl e) r u = absurd (y.1 (sym e))
    step (inr y) (inr h) r u = subst (λ b. length (cond b (without i ms) (k ∷ without i ms)) < suc (length ms)) (sym y.0) (omega (arith, r h))

-- what holds of each, and that it is not i
pub All-without : (P : ℕ → Type 0) (i : ℕ) (ms : List ℕ) → AllByRecursion P ms → AllByRecursion (λ m. P m × (m ≢ i)) (without i ms)
All-without P i [] h = tt
All-without P i (k ∷ ms) h = step (eqb_tells k i) h.0 (All-without P i ms h.1)
  where
    step : ((k == i) ≡ true × (k ≡ i)) ⊎ ((k == i) ≡ false × (k ≢ i)) → P k → AllByRecursion (λ m. P m × (m ≢ i)) (without i ms) → AllByRecursion (λ m. P m × (m ≢ i)) (cond (k == i) (without i ms) (k ∷ without i ms))
    step (inl y) h r = subst (λ b. AllByRecursion (λ m. P m × (m ≢ i)) (cond b (without i ms) (k ∷ without i ms))) (sym y.0) r
    step (inr y) h r = subst (λ b. AllByRecursion (λ m. P m × (m ≢ i)) (cond b (without i ms) (k ∷ without i ms))) (sym y.0) ((h, y.1), r)

pub mem_or_not : (i : ℕ) (ms : List ℕ) → IsAmong i ms ⊎ (IsAmong i ms → ⊥)
mem_or_not i [] = inr (λ h. h)
mem_or_not i (k ∷ ms) = step (eqb_tells i k) (mem_or_not i ms)
  where
    step : ((i == k) ≡ true × (i ≡ k)) ⊎ ((i == k) ≡ false × (i ≢ k)) → IsAmong i ms ⊎ (IsAmong i ms → ⊥) → ((i ≡ k) ⊎ IsAmong i ms) ⊎ ((i ≡ k) ⊎ IsAmong i ms → ⊥)
    step (inl y) r = inl (inl y.1)
    step (inr y) (inl h) = inl (inr h)
    step (inr y) (inr n) = inr (elim [ inl e ↦ y.1 e | inr h ↦ n h ])

module _ {K : Type 0} {o : Ops K} (l : IsField o) where
  pub gap_not_zero : (loc : ℕ → K) (y : K) (ms : List ℕ) → AllByRecursion (λ m. y ≢ loc m) ms → gap o y (map loc ms) ≢ o.zero
  gap_not_zero loc y [] h = l.one_not_zero
  gap_not_zero loc y (m ∷ ms) h = product_not_zero l _ _ (λ e. h.0 (difference_zero l y (loc m) e)) (gap_not_zero loc y ms h.1)

  plus_nothing : (x y : K) → x ≡ o.zero → y ≡ o.zero → o.add x y ≡ o.zero
  plus_nothing x y e f = rw (e, f) (simp (ring, l))

  pub at-outside : (e : List (ℕ × K)) (i : ℕ) (ms : List ℕ) → AllByRecursion (λ (p : ℕ × K). IsAmong p.0 ms) e → (IsAmong i ms → ⊥) → value_of_pattern_at o e i ≡ o.zero
  at-outside [] i ms h n = refl
  at-outside (p ∷ e) i ms h n = plus_nothing _ _ (step (eqb_tells p.0 i)) (at-outside e i ms h.1 n)
    where
      step : ((p.0 == i) ≡ true × (p.0 ≡ i)) ⊎ ((p.0 == i) ≡ false × (p.0 ≢ i)) → cond (p.0 == i) p.1 o.zero ≡ o.zero
      step (inl y) = absurd (n (subst (λ m. IsAmong m ms) y.1 h.0))
      step (inr y) = ap (λ b. cond b p.1 o.zero) y.0

  covered : (c : ℕ → K) (e : List (ℕ × K)) (i : ℕ) (ms : List ℕ) → AllByRecursion (λ (p : ℕ × K). IsAmong p.0 ms) e → Covered l c i (without i ms) e
  covered c [] i ms h = tt
  covered c (p ∷ e) i ms h = (step (eqb_tells p.0 i), covered c e i ms h.1)
    where
      step : ((p.0 == i) ≡ true × (p.0 ≡ i)) ⊎ ((p.0 == i) ≡ false × (p.0 ≢ i)) → (p.0 ≡ i) ⊎ IsAmong p.0 (without i ms) ⊎ (c p.0 ≡ o.zero)
      step (inl y) = inl y.1
      step (inr y) = inr (inl (mem-without p.0 i ms h.0 y.1))

  apart : (loc : ℕ → K) (w i : ℕ) (ms : List ℕ) → ((m n : ℕ) → m < w → n < w → m ≢ n → loc m ≢ loc n) → i < w → AllByRecursion (λ m. (m < w) × (m ≢ i)) ms → AllByRecursion (λ m. loc i ≢ loc m) ms
  apart loc w i [] differ below h = tt
  apart loc w i (m ∷ ms) differ below h = (differ i m below h.0.0 (λ e. h.0.1 (sym e)), apart loc w i ms differ below h.1)

  below_of : (w i : ℕ) (ms : List ℕ) → IsAmong i ms → AllByRecursion (λ m. m < w) ms → i < w
  below_of w i [] h b = absurd h
  below_of w i (m ∷ ms) (inl e) b = subst (λ k. k < w) (sym e) b.0
  below_of w i (m ∷ ms) (inr h) b = below_of w i ms h b.1

  same_factor : (x y f g q : K) → f ≢ o.zero → g ≢ o.zero → q ≢ o.zero → o.mul x (o.mul (o.mul f g) q) ≡ o.mul y (o.mul (o.mul f g) q) → x ≡ y
  same_factor x y f g q nf ng nq e =
      mul_cancel l (o.mul (o.mul f g) q) x y (product_not_zero l _ _ (product_not_zero l f g nf ng) nq) (l.mul_comm (o.mul (o.mul f g) q) x ∙ e ∙ l.mul_comm y (o.mul (o.mul f g) q))

  -- sums of powers that agree at as many places as there are locations come from the same values
  pub same_values : (loc c : ℕ → K) (w b : ℕ) (ms : List ℕ) (e e' : List (ℕ × K)) →
      ((m n : ℕ) → m < w → n < w → m ≢ n → loc m ≢ loc n) → ((m : ℕ) → c m ≢ o.zero) → AllByRecursion (λ m. m < w) ms → length ms ≤ b →
      AllByRecursion (λ (p : ℕ × K). IsAmong p.0 ms) e → AllByRecursion (λ (p : ℕ × K). IsAmong p.0 ms) e' →
      ((t : ℕ) → t < b → power_sum o loc c e t ≡ power_sum o loc c e' t) → (i : ℕ) → value_of_pattern_at o e i ≡ value_of_pattern_at o e' i
  unfolding power
  same_values loc c w b ms e e' differ heavy below few in_e in_e' agree i = step (mem_or_not i ms)
    where
      step : IsAmong i ms ⊎ (IsAmong i ms → ⊥) → value_of_pattern_at o e i ≡ value_of_pattern_at o e' i
      step (inr n) = at-outside e i ms in_e n ∙ sym (at-outside e' i ms in_e' n)
      step (inl h) =
          let others : List ℕ = without i ms in
          let fewer : length (map loc others) + 0 < b = simp length-map_ (omega (arith, length-without_mem i ms h)) in
          let left : knocks o (map loc others) (power_sum o loc c e) 0 ≡ o.mul (value_of_pattern_at o e i) (o.mul (o.mul (c i) (gap o (loc i) (map loc others))) (power o (loc i) 0)) = isolate l loc c i others e 0 (covered c e i ms in_e) in
          let right : knocks o (map loc others) (power_sum o loc c e') 0 ≡ o.mul (value_of_pattern_at o e' i) (o.mul (o.mul (c i) (gap o (loc i) (map loc others))) (power o (loc i) 0)) = isolate l loc c i others e' 0 (covered c e' i ms in_e') in
          let both : knocks o (map loc others) (power_sum o loc c e) 0 ≡ knocks o (map loc others) (power_sum o loc c e') 0 = knocks-cong l (map loc others) (power_sum o loc c e) (power_sum o loc c e') b 0 agree fewer in
          same_factor (value_of_pattern_at o e i) (value_of_pattern_at o e' i) (c i) (gap o (loc i) (map loc others)) (power o (loc i) 0) (heavy i)
          (gap_not_zero loc (loc i) others (apart loc w i others differ (below_of w i ms h below) (All-without (λ m. m < w) i ms below))) l.one_not_zero
          (sym left ∙ both ∙ right)
        where
          length-map_ : (f : ℕ → K) (xs : List ℕ) → length (map f xs) ≡ length xs
          length-map_ f [] = refl
          length-map_ f (x ∷ xs) = ap suc (length-map_ f xs)
