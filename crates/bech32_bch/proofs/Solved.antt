-- What a pattern that solves says of the register of the syndromes with the erasures taken out, and of the values.
use Rattle.std.specs.List.{AllByRecursion}
use Rattle.std.proofs.Common.{◌≡◌, ℕ, suc, ◌+◌, ◌*◌, ◌<◌, ◌≤◌, List, [], ◌∷◌, map, length, ◌⊎◌, inl, inr, ap, ◌∙◌, refl}
use Rattle.std.proofs.Common.{arith}
use Rattle.std.specs.Prelude.{◌≢◌}
use Rattle.bech32_gf.specs.Field.{Ops, IsField, power}
use Rattle.bech32_poly.specs.Pattern.{value_of_pattern_at}
use Rattle.bech32_bch.specs.Pattern.{locations}
use Rattle.bech32_gf.specs.laws.Ring.{ring}
use Rattle.bech32_poly.proofs.Zero.{product_not_zero}
use Rattle.bech32_bch.specs.Knock.{knocks, gap}
use Rattle.bech32_poly.specs.Pattern.{power_sum}
use Rattle.bech32_bch.proofs.Knock.{gap-zero, knocks-cong, knocks-power_sum, isolate, Covered}
use Rattle.bech32_poly.specs.Distinct.{IsAmong, IsOnce, IsNotAmong}
use Rattle.bech32_bch.proofs.Alone.{mem_or_not, gap_not_zero}
use Rattle.bech32_bch.proofs.Found.{Terms}
use Rattle.bech32_bch.proofs.Counting.{outside, outside_of, outside-mem}

length-map_ : {K : Type 0} (h : ℕ → K) (xs : List ℕ) → length (map h xs) ≡ length xs
length-map_ h [] = refl
length-map_ h (x ∷ xs) = ap suc (length-map_ h xs)

not_outside : {K : Type 0} (i : ℕ) (s : List ℕ) (e : List (ℕ × K)) → IsNotAmong i (locations e) → IsNotAmong i (outside s e)
unfolding outside_of
not_outside i s [] h = tt
not_outside i s (p ∷ e) h = step (mem_or_not p.0 s) h.0 (not_outside i s e h.1)
  where
    step : (d : IsAmong p.0 s ⊎ (IsAmong p.0 s → ⊥)) → i ≢ p.0 → IsNotAmong i (outside s e) → IsNotAmong i (outside_of s p.0 d (outside s e))
    step (inl k) n r = r
    step (inr k) n r = (n, r)

pub once_outside : {K : Type 0} (s : List ℕ) (e : List (ℕ × K)) → IsOnce (locations e) → IsOnce (outside s e)
unfolding outside_of
once_outside s [] h = tt
once_outside s (p ∷ e) h = step (mem_or_not p.0 s) (not_outside p.0 s e h.0) (once_outside s e h.1)
  where
    step : (d : IsAmong p.0 s ⊎ (IsAmong p.0 s → ⊥)) → IsNotAmong p.0 (outside s e) → IsOnce (outside s e) → IsOnce (outside_of s p.0 d (outside s e))
    step (inl k) n r = r
    step (inr k) n r = (n, r)

-- what holds at each pair holds at the locations outside, which are not erased
pub at_outside : {K : Type 0} (P : ℕ → Type 0) (s : List ℕ) (e : List (ℕ × K)) → AllByRecursion (λ (p : ℕ × K). P p.0) e → AllByRecursion (λ m. P m × (IsAmong m s → ⊥)) (outside s e)
unfolding outside_of
at_outside P s [] h = tt
at_outside P s (p ∷ e) h = step (mem_or_not p.0 s) h.0 (at_outside P s e h.1)
  where
    step : (d : IsAmong p.0 s ⊎ (IsAmong p.0 s → ⊥)) → P p.0 → AllByRecursion (λ m. P m × (IsAmong m s → ⊥)) (outside s e) → AllByRecursion (λ m. P m × (IsAmong m s → ⊥)) (outside_of s p.0 d (outside s e))
    step (inl k) h r = r
    step (inr k) h r = ((h, k), r)

outside-more : {K : Type 0} (s : List ℕ) (p : ℕ × K) (e : List (ℕ × K)) (i : ℕ) → IsAmong i (outside s e) → IsAmong i (outside s (p ∷ e))
unfolding outside_of
outside-more s p e i h = step (mem_or_not p.0 s)
  where
    step : (d : IsAmong p.0 s ⊎ (IsAmong p.0 s → ⊥)) → IsAmong i (outside_of s p.0 d (outside s e))
    step (inl k) = h
    step (inr n) = inr h

module _ {K : Type 0} {o : Ops K} (l : IsField o) where
  gapless : (g c : K) → g ≡ o.zero → o.mul g c ≡ o.zero
  gapless g c e = rw e (simp (ring, l))

  erased : (loc c : ℕ → K) (s ms : List ℕ) (e : List (ℕ × K)) → ((i : ℕ) → IsAmong i (outside s e) → IsAmong i ms) → AllByRecursion (λ (p : ℕ × K). IsAmong p.0 ms ⊎ (o.mul (gap o (loc p.0) (map loc s)) (c p.0) ≡ o.zero)) e
  erased loc c s ms [] h = tt
  erased loc c s ms (p ∷ e) h = (elim (outside-mem s p e) [ inl k ↦ inl (h p.0 k) | inr k ↦ inr (gapless _ (c p.0) (gap-zero l loc p.0 s k)) ], erased loc c s ms e (λ i k. h i (outside-more s p e i k)))

  apart_from : (loc : ℕ → K) (w m : ℕ) (s : List ℕ) → ((i j : ℕ) → i < w → j < w → i ≢ j → loc i ≢ loc j) → m < w → AllByRecursion (λ k. k < w) s → (IsAmong m s → ⊥) → AllByRecursion (λ k. loc m ≢ loc k) s
  apart_from loc w m [] differ below all n = tt
  apart_from loc w m (k ∷ s) differ below all n = (differ m k below all.0 (λ e. n (inl e)), apart_from loc w m s differ below all.1 (λ h. n (inr h)))

  weighs : (loc c : ℕ → K) (w : ℕ) (s ms : List ℕ) (e : List (ℕ × K)) → ((i j : ℕ) → i < w → j < w → i ≢ j → loc i ≢ loc j) → ((m : ℕ) → c m ≢ o.zero) → AllByRecursion (λ k. k < w) s →
      AllByRecursion (λ m. ((m < w) × (value_of_pattern_at o e m ≢ o.zero)) × (IsAmong m s → ⊥)) ms → AllByRecursion (λ m. (value_of_pattern_at o e m ≢ o.zero) × (o.mul (gap o (loc m) (map loc s)) (c m) ≢ o.zero)) ms
  weighs loc c w s [] e differ heavy below h = tt
  weighs loc c w s (m ∷ ms) e differ heavy below h =
      ((h.0.0.1, product_not_zero l _ (c m) (gap_not_zero l loc (loc m) s (apart_from loc w m s differ h.0.0.0 below h.0.1)) (heavy m)), weighs loc c w s ms e differ heavy below h.1)

  below_of : (w : ℕ) (e : List (ℕ × K)) (s ms : List ℕ) → AllByRecursion (λ m. ((m < w) × (value_of_pattern_at o e m ≢ o.zero)) × (IsAmong m s → ⊥)) ms → AllByRecursion (λ m. m < w) ms
  below_of w e s [] h = tt
  below_of w e s (m ∷ ms) h = (h.0.0.0, below_of w e s ms h.1)

  -- a pattern e with few errors outside the erasures s gives the terms that `locates` asks for
  pub terms : (loc c : ℕ → K) (w bound n : ℕ) (syndromes : ℕ → K) (s : List ℕ) (e : List (ℕ × K)) →
      ((i j : ℕ) → i < w → j < w → i ≢ j → loc i ≢ loc j) → ((m : ℕ) → c m ≢ o.zero) → AllByRecursion (λ k. k < w) s →
      AllByRecursion (λ (p : ℕ × K). (p.0 < w) × (value_of_pattern_at o e p.0 ≢ o.zero)) e → IsOnce (locations e) →
      ((t : ℕ) → t < bound → syndromes t ≡ power_sum o loc c e t) → n + length s ≡ bound → 2 * length (outside s e) + length s ≤ bound →
      Terms l loc (λ m. o.mul (gap o (loc m) (map loc s)) (c m)) w n (knocks o (map loc s) syndromes) (outside s e) e
  terms loc c w bound n syndromes s e differ heavy s_below pairs once is room few = record {
    differ = differ;
    below = below_of w e s (outside s e) apart;
    once = once_outside s e once;
    places = erased loc c s (outside s e) e (λ i h. h);
    values = weighs loc c w s (outside s e) e differ heavy s_below apart;
    sums = λ t within. knocks-cong l (map loc s) syndromes (power_sum o loc c e) bound t is (simp length-map_ (omega arith)) ∙ knocks-power_sum l loc c e (map loc s) t;
    few = omega arith;
  }
    where
      apart : AllByRecursion (λ m. ((m < w) × (value_of_pattern_at o e m ≢ o.zero)) × (IsAmong m s → ⊥)) (outside s e)
      apart = at_outside (λ m. (m < w) × (value_of_pattern_at o e m ≢ o.zero)) s e pairs

  covered : (c : ℕ → K) (e : List (ℕ × K)) (i : ℕ) (ms : List ℕ) → AllByRecursion (λ (p : ℕ × K). (p.0 ≡ i) ⊎ IsAmong p.0 ms) e → Covered l c i ms e
  covered c [] i ms h = tt
  covered c (p ∷ e) i ms h = (elim h.0 [ inl k ↦ inl k | inr k ↦ inr (inl k) ], covered c e i ms h.1)

  -- the first item that is left where all other locations are knocked out is the value at i, times what is known
  pub value : (loc c : ℕ → K) (bound : ℕ) (syndromes : ℕ → K) (i : ℕ) (ms : List ℕ) (e : List (ℕ × K)) → ((t : ℕ) → t < bound → syndromes t ≡ power_sum o loc c e t) → length ms < bound →
      AllByRecursion (λ (p : ℕ × K). (p.0 ≡ i) ⊎ IsAmong p.0 ms) e → knocks o (map loc ms) syndromes 0 ≡ o.mul (value_of_pattern_at o e i) (o.mul (c i) (gap o (loc i) (map loc ms)))
  unfolding power
  value loc c bound syndromes i ms e is room h =
      knocks-cong l (map loc ms) syndromes (power_sum o loc c e) bound 0 is (simp length-map_ (omega arith)) ∙ isolate l loc c i ms e 0 (covered c e i ms h)
      ∙ ap (o.mul (value_of_pattern_at o e i)) (l.mul_one (o.mul (c i) (gap o (loc i) (map loc ms))))
