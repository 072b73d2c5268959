-- How many errors a pattern has, and why no other pattern has as few.
use Rattle.std.specs.List.{AllByRecursion}
use Rattle.std.proofs.Common.{◌≡◌, ℕ, ◌+◌, ◌*◌, ◌<◌, ◌≤◌, List, [], ◌∷◌, ◌++◌, length, ◌⊎◌, inl, inr, subst, sym, ◌∙◌, refl}
use Rattle.std.proofs.Common.{arith}
use Rattle.std.specs.Prelude.{◌≢◌}
use Rattle.std.proofs.Math.Decide.{dec_lt}
use Rattle.bech32_poly.specs.Distinct.{IsAmong}
use Rattle.bech32_gf.specs.Field.{Ops, IsField, power, IsOrder}
use Rattle.bech32_poly.specs.Pattern.{value_of_pattern_at, pattern_polynomial}
use Rattle.bech32_poly.specs.Division.{remainder_of}
use Rattle.bech32_poly.specs.Remainder.{monic}
use Rattle.bech32_poly.specs.Embedding.{value_in, Embeds}
use Rattle.bech32_poly.proofs.Zero.{power_distinct, power_not_zero}
use Rattle.bech32_bch.specs.Pattern.{locations}
use Rattle.bech32_bch.proofs.Alone.{mem_or_not, same_values}
use Rattle.bech32_bch.proofs.Places.{mem_left, mem_right}
use Rattle.bech32_poly.specs.Pattern.{inside}
use Rattle.bech32_poly.proofs.PatternSums.{value_of_pattern_at-inside, residue_syndrome}

-- the locations outside the erasures
unfoldable pub outside_of : (s : List ℕ) (i : ℕ) → IsAmong i s ⊎ (IsAmong i s → ⊥) → List ℕ → List ℕ
outside_of s i (inl h) rest = rest
outside_of s i (inr n) rest = i ∷ rest

abbrev pub outside : {F : Type 0} → List ℕ → List (ℕ × F) → List ℕ
outside s [] = []
outside s (p ∷ e) = outside_of s p.0 (mem_or_not p.0 s) (outside s e)

pub outside-mem : {F : Type 0} (s : List ℕ) (p : ℕ × F) (e : List (ℕ × F)) → IsAmong p.0 (outside s (p ∷ e)) ⊎ IsAmong p.0 s
unfolding outside_of
outside-mem s p e = step (mem_or_not p.0 s)
  where
    step : (d : IsAmong p.0 s ⊎ (IsAmong p.0 s → ⊥)) → IsAmong p.0 (outside_of s p.0 d (outside s e)) ⊎ IsAmong p.0 s
    step (inl h) = inr h
    step (inr n) = inl (inl refl)

outside-more : {F : Type 0} (s : List ℕ) (p : ℕ × F) (e : List (ℕ × F)) (i : ℕ) → IsAmong i (outside s e) → IsAmong i (outside s (p ∷ e))
unfolding outside_of
outside-more s p e i h = step (mem_or_not p.0 s)
  where
    step : (d : IsAmong p.0 s ⊎ (IsAmong p.0 s → ⊥)) → IsAmong i (outside_of s p.0 d (outside s e))
    step (inl k) = h
    step (inr n) = inr h

-- the locations outside are those that are not erased
pub outside_located : {F : Type 0} (s : List ℕ) (e : List (ℕ × F)) (i : ℕ) → IsAmong i (outside s e) → IsAmong i (locations e) × (IsAmong i s → ⊥)
unfolding outside_of
outside_located s [] i m = absurd m
outside_located s (p ∷ e) i m = step (mem_or_not p.0 s) m (outside_located s e i)
  where
    step : (d : IsAmong p.0 s ⊎ (IsAmong p.0 s → ⊥)) → IsAmong i (outside_of s p.0 d (outside s e)) → (IsAmong i (outside s e) → IsAmong i (locations e) × (IsAmong i s → ⊥)) → IsAmong i (locations (p ∷ e)) × (IsAmong i s → ⊥)
    step (inl k) n r = let h : IsAmong i (locations e) × (IsAmong i s → ⊥) = r n in (inr h.0, h.1)
    step (inr k) (inl e') r = (inl e', λ j. k (subst (λ u. IsAmong u s) e' j))
    step (inr k) (inr n) r = let h : IsAmong i (locations e) × (IsAmong i s → ⊥) = r n in (inr h.0, h.1)

pub located_outside : {F : Type 0} (s : List ℕ) (e : List (ℕ × F)) (i : ℕ) → IsAmong i (locations e) → (IsAmong i s → ⊥) → IsAmong i (outside s e)
unfolding outside_of
located_outside s [] i m n = m
located_outside s (p ∷ e) i m n = step (mem_or_not p.0 s) m (λ k. located_outside s e i k n)
  where
    step : (d : IsAmong p.0 s ⊎ (IsAmong p.0 s → ⊥)) → IsAmong i (locations (p ∷ e)) → (IsAmong i (locations e) → IsAmong i (outside s e)) → IsAmong i (outside_of s p.0 d (outside s e))
    step (inl k) (inl e') r = absurd (n (subst (λ u. IsAmong u s) (sym e') k))
    step (inl k) (inr j) r = r j
    step (inr k) (inl e') r = inl e'
    step (inr k) (inr j) r = inr (r j)

-- each location of e is outside or erased
pub covers : {F : Type 0} (s ms : List ℕ) (e : List (ℕ × F)) → ((i : ℕ) → IsAmong i (outside s e) → IsAmong i ms) → ((i : ℕ) → IsAmong i s → IsAmong i ms) → AllByRecursion (λ (p : ℕ × F). IsAmong p.0 ms) e
covers s ms [] out er = tt
covers s ms (p ∷ e) out er = (elim (outside-mem s p e) [ inl h ↦ out p.0 h | inr h ↦ er p.0 h ], covers s ms e (λ i h. out i (outside-more s p e i h)) er)

outside-below : {F : Type 0} (w : ℕ) (s : List ℕ) (e : List (ℕ × F)) → AllByRecursion (λ (p : ℕ × F). p.0 < w) e → AllByRecursion (λ m. m < w) (outside s e)
unfolding outside_of
outside-below w s [] h = tt
outside-below w s (p ∷ e) h = step (mem_or_not p.0 s) h.0 (outside-below w s e h.1)
  where
    step : (d : IsAmong p.0 s ⊎ (IsAmong p.0 s → ⊥)) → p.0 < w → AllByRecursion (λ m. m < w) (outside s e) → AllByRecursion (λ m. m < w) (outside_of s p.0 d (outside s e))
    step (inl k) b r = r
    step (inr n) b r = (b, r)

all-append : (P : ℕ → Type 0) (xs ys : List ℕ) → AllByRecursion P xs → AllByRecursion P ys → AllByRecursion P (xs ++ ys)
all-append P [] ys h k = k
all-append P (x ∷ xs) ys h k = (h.0, all-append P xs ys h.1 k)

length-append_ : (xs ys : List ℕ) → length (xs ++ ys) ≡ length xs + length ys
length-append_ [] ys = omega arith
length-append_ (x ∷ xs) ys = let e : length (xs ++ ys) ≡ length xs + length ys = length-append_ xs ys in omega arith

places : {F K : Type 0} (embed : F → K) (ms : List ℕ) (e : List (ℕ × F)) → AllByRecursion (λ (p : ℕ × F). IsAmong p.0 ms) e → AllByRecursion (λ (p : ℕ × K). IsAmong p.0 ms) (inside embed e)
places embed ms [] h = tt
places embed ms (p ∷ e) h = (h.0, places embed ms e h.1)

module _ {F K : Type 0} {f : Ops F} {o : Ops K} (fl : IsField f) (l : IsField o) {embed : F → K} (into : Embeds f o embed) where
  -- two patterns with one remainder, the second with no more errors: they are the same
  pub alone : (b : K) (order w start bound : ℕ) (g r : List F) (s : List ℕ) (e e' : List (ℕ × F)) →
      ((x y : F) → embed x ≡ embed y → x ≡ y) → IsOrder o b order → b ≢ o.zero → w ≤ order →
      ((t : ℕ) → t < bound → value_in o embed (monic f g) (power o b (start + t)) ≡ o.zero) →
      AllByRecursion (λ m. m < w) s → AllByRecursion (λ (p : ℕ × F). p.0 < w) e → AllByRecursion (λ (p : ℕ × F). p.0 < w) e' →
      remainder_of f g (pattern_polynomial f e) ≡ r → remainder_of f g (pattern_polynomial f e') ≡ r →
      2 * length (outside s e) + length s ≤ bound → length (outside s e') ≤ length (outside s e) → (i : ℕ) → value_of_pattern_at f e i ≡ value_of_pattern_at f e' i
  alone b order w start bound g r s e e' apart ord not_zero within roots s_below e_below e'_below is is' few fewer i =
      apart _ _ (sym (value_of_pattern_at-inside fl l into e i) ∙ same i ∙ value_of_pattern_at-inside fl l into e' i)
    where
      ms : List ℕ
      ms = outside s e ++ (outside s e' ++ s)

      differ : (m n : ℕ) → m < w → n < w → m ≢ n → power o b m ≢ power o b n
      differ m n h k d = elim (dec_lt m n) [
        | yes p ↦ power_distinct l b order m n ord not_zero p (omega arith)
        | no p ↦ λ q. power_distinct l b order n m ord not_zero (omega arith) (omega arith) (sym q)
      ]

      size : length ms ≤ bound
      size = omega (arith, length-append_ (outside s e) (outside s e' ++ s), length-append_ (outside s e') s)

      e_in : AllByRecursion (λ (p : ℕ × F). IsAmong p.0 ms) e
      e_in = covers s ms e (λ j h. mem_left j (outside s e) _ h) (λ j h. mem_right j (outside s e) _ (mem_right j (outside s e') s h))

      e'_in : AllByRecursion (λ (p : ℕ × F). IsAmong p.0 ms) e'
      e'_in = covers s ms e' (λ j h. mem_right j (outside s e) _ (mem_left j (outside s e') s h)) (λ j h. mem_right j (outside s e) _ (mem_right j (outside s e') s h))

      all_below : AllByRecursion (λ m. m < w) ms
      all_below = all-append (λ m. m < w) (outside s e) (outside s e' ++ s) (outside-below w s e e_below) (all-append (λ m. m < w) (outside s e') s (outside-below w s e' e'_below) s_below)

      same : (j : ℕ) → value_of_pattern_at o (inside embed e) j ≡ value_of_pattern_at o (inside embed e') j
      same = same_values l (λ m. power o b m) (λ m. power o (power o b m) start) w bound ms (inside embed e) (inside embed e') differ
          (λ m. power_not_zero l (power o b m) (power_not_zero l b not_zero m) start) all_below size (places embed ms e e_in) (places embed ms e' e'_in)
          (λ t h. sym (residue_syndrome fl l into b g r e start t (roots t h) is) ∙ residue_syndrome fl l into b g r e' start t (roots t h) is')
