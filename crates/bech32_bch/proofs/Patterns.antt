-- Patterns by their values, and the errors that are counted.
use Rattle.std.specs.Prelude.{◌==◌, Bool, true, false, cond}
use Rattle.std.specs.List.{AllByRecursion}
use Rattle.std.proofs.Common.{◌≡◌, ℕ, zero, suc, ◌+◌, ◌<◌, ◌≤◌, List, [], ◌∷◌, ◌++◌, map, length, ◌⊎◌, inl, inr, subst, sym, ap, ◌∙◌, refl}
use Rattle.std.proofs.lemmas.Bool.Decides.{eqb_tells}
use Rattle.std.proofs.Common.{arith}
use Rattle.std.specs.Prelude.{◌≢◌}
use Rattle.bech32_gf.specs.Field.{Ops, IsField}
use Rattle.bech32_poly.specs.Division.{remainder_of}
use Rattle.bech32_poly.specs.Pattern.{pattern_polynomial, value_of_pattern_at}
use Rattle.bech32_poly.specs.Polynomial.{coefficient}
use Rattle.bech32_poly.proofs.PatternSums.{coefficient-pattern_polynomial}
use Rattle.bech32_poly.proofs.Remainder.{remainder_of-same}
use Rattle.std.proofs.Math.Decide.{dec_lt}
use Rattle.bech32_bch.specs.Pattern.{locations, errors_outside}
use Rattle.bech32_poly.specs.Distinct.{IsAmong, IsOnce, IsNotAmong}
use Rattle.bech32_gf.specs.laws.Ring.{ring}
use Rattle.bech32_bch.proofs.Alone.{mem_or_not}
use Rattle.bech32_bch.proofs.Counting.{outside, outside_of}
use Rattle.bech32_poly.specs.Pattern.{inside}
use Rattle.bech32_bch.specs.Erasures.{has}
use Rattle.bech32_bch.proofs.Loops.{has-false, has-true}
use Rattle.bech32_bch.proofs.Places.{not_mem}

either : (b : Bool) → (b ≡ true) ⊎ (b ≡ false)
either true = inl refl
either false = inr refl

mem-has : (s : List ℕ) (i : ℕ) → IsAmong i s → has s i ≡ true
mem-has s i m = elim (either (has s i)) [ inl t ↦ t | inr e ↦ absurd (has-false s i e m) ]

not-has : (s : List ℕ) (i : ℕ) → (IsAmong i s → ⊥) → has s i ≡ false
not-has s i n = elim (either (has s i)) [ inl t ↦ absurd (n (has-true s i t)) | inr e ↦ e ]

pub outside_count : {F : Type 0} (s : List ℕ) (e : List (ℕ × F)) → length (outside s e) ≡ errors_outside s e
unfolding outside_of
outside_count s [] = refl
outside_count s (p ∷ e) = step (mem_or_not p.0 s) (outside_count s e)
  where
    step : (d : IsAmong p.0 s ⊎ (IsAmong p.0 s → ⊥)) → length (outside s e) ≡ errors_outside s e → length (outside_of s p.0 d (outside s e)) ≡ cond (has s p.0) (errors_outside s e) (suc (errors_outside s e))
    step (inl m) r = r ∙ sym (ap (λ b. cond b (errors_outside s e) (suc (errors_outside s e))) (mem-has s p.0 m))
    step (inr n) r = ap suc r ∙ sym (ap (λ b. cond b (errors_outside s e) (suc (errors_outside s e))) (not-has s p.0 n))

pub errors-inside : {F K : Type 0} (embed : F → K) (s : List ℕ) (e : List (ℕ × F)) → errors_outside s (inside embed e) ≡ errors_outside s e
errors-inside embed s [] = refl
errors-inside embed s (p ∷ e) = ap (λ n. cond (has s p.0) n (suc n)) (errors-inside embed s e)

pub locations-inside : {F K : Type 0} (embed : F → K) (e : List (ℕ × F)) → locations (inside embed e) ≡ locations e
locations-inside embed [] = refl
locations-inside embed (p ∷ e) = ap (λ u. p.0 ∷ u) (locations-inside embed e)

pub locations_listed : {F : Type 0} (h : ℕ → F) (ms : List ℕ) → locations (map (λ i. (i, h i)) ms) ≡ ms
locations_listed h [] = refl
locations_listed h (m ∷ ms) = ap (λ u. m ∷ u) (locations_listed h ms)

pub listed_same : {F : Type 0} (h h' : ℕ → F) → ((i : ℕ) → h i ≡ h' i) → (ms : List ℕ) → map {B = ℕ × F} (λ i. (i, h i)) ms ≡ map {B = ℕ × F} (λ i. (i, h' i)) ms
listed_same h h' e [] = refl
listed_same {F} h h' e (m ∷ ms) = joined (e m) (listed_same h h' e ms)
  where
    joined : h m ≡ h' m → map {B = ℕ × F} (λ i. (i, h i)) ms ≡ map {B = ℕ × F} (λ i. (i, h' i)) ms → map {B = ℕ × F} (λ i. (i, h i)) (m ∷ ms) ≡ map {B = ℕ × F} (λ i. (i, h' i)) (m ∷ ms)
    joined k r = cc (k, r)

-- errors counted over the locations
abbrev pub misses : List ℕ → List ℕ → ℕ
misses s [] = 0
misses s (m ∷ ms) = cond (has s m) (misses s ms) (suc (misses s ms))

pub errors-misses : {F : Type 0} (s : List ℕ) (e : List (ℕ × F)) → errors_outside s e ≡ misses s (locations e)
errors-misses s [] = refl
errors-misses s (p ∷ e) = ap (λ n. cond (has s p.0) n (suc n)) (errors-misses s e)

pub misses_most : (s ms : List ℕ) → misses s ms ≤ length ms
misses_most s [] = omega arith
misses_most s (m ∷ ms) = step (has s m) (misses_most s ms)
  where
    step : (b : Bool) → misses s ms ≤ length ms → cond b (misses s ms) (suc (misses s ms)) ≤ suc (length ms)
    step true h = omega arith
    step false h = omega arith

pub misses_after : (s xs ms : List ℕ) → ((x : ℕ) → IsAmong x xs → IsAmong x s) → misses s (xs ++ ms) ≡ misses s ms
misses_after s [] ms h = refl
misses_after s (x ∷ xs) ms h = ap (λ b. cond b (misses s (xs ++ ms)) (suc (misses s (xs ++ ms)))) (mem-has s x (h x (inl refl))) ∙ misses_after s xs ms (λ y m. h y (inr m))

pub all_located : {F : Type 0} (P : ℕ → Type 0) (e : List (ℕ × F)) → AllByRecursion P (locations e) → AllByRecursion (λ (p : ℕ × F). P p.0) e
all_located P [] h = tt
all_located P (p ∷ e) h = (h.0, all_located P e h.1)

module _ {F : Type 0} {f : Ops F} (fl : IsField f) where
  both_zero : (u v : F) → u ≡ f.zero → v ≡ f.zero → f.add u v ≡ f.zero
  both_zero u v e k = rw (e, k) (simp (ring, fl))

  first_zero : (u v : F) → u ≡ f.zero → f.add u v ≡ v
  first_zero u v e = rw e (simp (ring, fl))

  second_zero : (u v w : F) → u ≡ w → v ≡ f.zero → f.add u v ≡ w
  second_zero u v w e k = rw (e, k) (simp (ring, fl))

  pub at_absent : (e : List (ℕ × F)) (i : ℕ) → (IsAmong i (locations e) → ⊥) → value_of_pattern_at f e i ≡ f.zero
  at_absent [] i h = refl
  at_absent (p ∷ e) i h = step (eqb_tells p.0 i) (at_absent e i (λ m. h (inr m)))
    where
      step : ((p.0 == i) ≡ true × (p.0 ≡ i)) ⊎ ((p.0 == i) ≡ false × (p.0 ≢ i)) → value_of_pattern_at f e i ≡ f.zero → f.add (cond (p.0 == i) p.1 f.zero) (value_of_pattern_at f e i) ≡ f.zero
      step (inl y) r = absurd (h (inl (sym y.1)))
      step (inr y) r = both_zero _ _ (ap (λ b. cond b p.1 f.zero) y.0) r

  pub at_first : (p : ℕ × F) (e : List (ℕ × F)) → IsNotAmong p.0 (locations e) → value_of_pattern_at f (p ∷ e) p.0 ≡ p.1
  at_first p e n = step (eqb_tells p.0 p.0) (at_absent e p.0 (not_mem p.0 (locations e) n))
    where
      step : ((p.0 == p.0) ≡ true × (p.0 ≡ p.0)) ⊎ ((p.0 == p.0) ≡ false × (p.0 ≢ p.0)) → value_of_pattern_at f e p.0 ≡ f.zero → f.add (cond (p.0 == p.0) p.1 f.zero) (value_of_pattern_at f e p.0) ≡ p.1
      step (inl y) r = second_zero _ _ p.1 (ap (λ b. cond b p.1 f.zero) y.0) r
      step (inr y) r = absurd (y.1 refl)

  pub at_rest : (p : ℕ × F) (e : List (ℕ × F)) (i : ℕ) → p.0 ≢ i → value_of_pattern_at f (p ∷ e) i ≡ value_of_pattern_at f e i
  at_rest p e i n = step (eqb_tells p.0 i)
    where
      step : ((p.0 == i) ≡ true × (p.0 ≡ i)) ⊎ ((p.0 == i) ≡ false × (p.0 ≢ i)) → f.add (cond (p.0 == i) p.1 f.zero) (value_of_pattern_at f e i) ≡ value_of_pattern_at f e i
      step (inl y) = absurd (n y.1)
      step (inr y) = first_zero _ _ (ap (λ b. cond b p.1 f.zero) y.0)

  kept_along : (p : ℕ × F) (e e' : List (ℕ × F)) → IsNotAmong p.0 (locations e') → AllByRecursion (λ (q : ℕ × F). q.1 ≡ value_of_pattern_at f e q.0) e' → AllByRecursion (λ (q : ℕ × F). q.1 ≡ value_of_pattern_at f (p ∷ e) q.0) e'
  kept_along p e [] n a = tt
  kept_along p e (q ∷ e') n a = (a.0 ∙ sym (at_rest p e q.0 n.0), kept_along p e e' n.1 a.1)

  -- each pair's value is the pattern's value there
  pub own_values : (e : List (ℕ × F)) → IsOnce (locations e) → AllByRecursion (λ (q : ℕ × F). q.1 ≡ value_of_pattern_at f e q.0) e
  own_values [] h = tt
  own_values (p ∷ e) h = (sym (at_first p e h.0), kept_along p e e h.0 (own_values e h.1))

  map_own : (h : ℕ → F) (e : List (ℕ × F)) → AllByRecursion (λ (q : ℕ × F). q.1 ≡ h q.0) e → e ≡ map (λ i. (i, h i)) (locations e)
  map_own h [] a = refl
  map_own h (p ∷ e) a = let here : p ≡ (p.0, h p.0) = ap (λ v. (p.0, v)) a.0 in let rest : e ≡ map (λ i. (i, h i)) (locations e) = map_own h e a.1 in ap (λ q. q ∷ e) here ∙ ap (λ u. (p.0, h p.0) ∷ u) rest

  pub own : (e : List (ℕ × F)) → IsOnce (locations e) → e ≡ map (λ i. (i, value_of_pattern_at f e i)) (locations e)
  own e once = map_own (value_of_pattern_at f e) e (own_values e once)

  pub at_listed : (h : ℕ → F) (ms : List ℕ) (i : ℕ) → IsOnce ms → IsAmong i ms → value_of_pattern_at f (map (λ j. (j, h j)) ms) i ≡ h i
  at_listed h [] i once m = absurd m
  at_listed h (x ∷ ms) i once (inl e) = subst (λ u. value_of_pattern_at f (map (λ j. (j, h j)) (x ∷ ms)) u ≡ h u) (sym e) (at_first (x, h x) (map (λ j. (j, h j)) ms) (subst (λ u. IsNotAmong x u) (sym (locations_listed h ms)) once.0))
  at_listed h (x ∷ ms) i once (inr m) = at_rest (x, h x) (map (λ j. (j, h j)) ms) i (λ e. not_mem x ms once.0 (subst (λ u. IsAmong u ms) (sym e) m)) ∙ at_listed h ms i once.1 m

  -- the pairs that are not zero
  unfoldable pub kept_of : (p : ℕ × F) → Dec (p.1 ≡ f.zero) → List (ℕ × F) → List (ℕ × F)
  kept_of p (yes e) rest = rest
  kept_of p (no n) rest = p ∷ rest

  abbrev pub kept : List (ℕ × F) → List (ℕ × F)
  kept [] = []
  kept (p ∷ e) = kept_of p (fl.same_or_not p.1 f.zero) (kept e)

  pub at-kept : (e : List (ℕ × F)) (i : ℕ) → value_of_pattern_at f (kept e) i ≡ value_of_pattern_at f e i
  unfolding kept_of
  at-kept [] i = refl
  at-kept (p ∷ e) i = step (fl.same_or_not p.1 f.zero) (at-kept e i)
    where
      none : (b : Bool) → p.1 ≡ f.zero → cond b p.1 f.zero ≡ f.zero
      none true z = z
      none false z = refl

      step : (d : Dec (p.1 ≡ f.zero)) → value_of_pattern_at f (kept e) i ≡ value_of_pattern_at f e i → value_of_pattern_at f (kept_of p d (kept e)) i ≡ f.add (cond (p.0 == i) p.1 f.zero) (value_of_pattern_at f e i)
      step (yes z) r = r ∙ sym (first_zero _ _ (none (p.0 == i) z))
      step (no n) r = ap (f.add (cond (p.0 == i) p.1 f.zero)) r

  pub kept-values : (e : List (ℕ × F)) → AllByRecursion (λ (p : ℕ × F). p.1 ≢ f.zero) (kept e)
  unfolding kept_of
  kept-values [] = tt
  kept-values (p ∷ e) = step (fl.same_or_not p.1 f.zero) (kept-values e)
    where
      step : (d : Dec (p.1 ≡ f.zero)) → AllByRecursion (λ (q : ℕ × F). q.1 ≢ f.zero) (kept e) → AllByRecursion (λ (q : ℕ × F). q.1 ≢ f.zero) (kept_of p d (kept e))
      step (yes z) r = r
      step (no n) r = (n, r)

  pub all-kept : (P : ℕ → Type 0) (e : List (ℕ × F)) → AllByRecursion P (locations e) → AllByRecursion P (locations (kept e))
  unfolding kept_of
  all-kept P [] h = tt
  all-kept P (p ∷ e) h = step (fl.same_or_not p.1 f.zero) (all-kept P e h.1)
    where
      step : (d : Dec (p.1 ≡ f.zero)) → AllByRecursion P (locations (kept e)) → AllByRecursion P (locations (kept_of p d (kept e)))
      step (yes z) r = r
      step (no n) r = (h.0, r)

  pub kept-once : (e : List (ℕ × F)) → IsOnce (locations e) → IsOnce (locations (kept e))
  unfolding kept_of
  kept-once [] h = tt
  kept-once (p ∷ e) h = step (fl.same_or_not p.1 f.zero) (kept-once e h.1) (all-kept (λ y. p.0 ≢ y) e h.0)
    where
      step : (d : Dec (p.1 ≡ f.zero)) → IsOnce (locations (kept e)) → IsNotAmong p.0 (locations (kept e)) → IsOnce (locations (kept_of p d (kept e)))
      step (yes z) r n = r
      step (no k) r n = (n, r)

  pub kept-errors : (s : List ℕ) (e : List (ℕ × F)) → errors_outside s (kept e) ≤ errors_outside s e
  unfolding kept_of
  kept-errors s [] = omega arith
  kept-errors s (p ∷ e) = step (fl.same_or_not p.1 f.zero) (has s p.0) (kept-errors s e)
    where
      step : (d : Dec (p.1 ≡ f.zero)) (b : Bool) → errors_outside s (kept e) ≤ errors_outside s e → errors_outside s (kept_of p d (kept e)) ≤ cond (has s p.0) (errors_outside s e) (suc (errors_outside s e))
      step (yes z) b r = less (has s p.0) r
        where
          less : (b : Bool) → errors_outside s (kept e) ≤ errors_outside s e → errors_outside s (kept e) ≤ cond b (errors_outside s e) (suc (errors_outside s e))
          less true r = r
          less false r = omega arith
      step (no n) b r = same (has s p.0) r
        where
          same : (b : Bool) → errors_outside s (kept e) ≤ errors_outside s e → cond b (errors_outside s (kept e)) (suc (errors_outside s (kept e))) ≤ cond b (errors_outside s e) (suc (errors_outside s e))
          same true r = r
          same false r = omega arith

-- this many values of a pattern, from one location on
abbrev pub values_from : {F : Type 0} → Ops F → List (ℕ × F) → ℕ → ℕ → List F
values_from f e i zero = []
values_from f e i (suc n) = value_of_pattern_at f e i ∷ values_from f e (suc i) n

module _ {F : Type 0} {f : Ops F} (fl : IsField f) where
  coefficient-values_from : (e : List (ℕ × F)) (i n j : ℕ) → j < n → coefficient f (values_from f e i n) j ≡ value_of_pattern_at f e (i + j)
  coefficient-values_from e i zero j h = absurd (omega arith)
  coefficient-values_from e i (suc n) zero h = let z : i ≡ i + 0 = omega arith in ap (value_of_pattern_at f e) z
  coefficient-values_from e i (suc n) (suc j) h = let s : suc i + j ≡ i + suc j = omega arith in coefficient-values_from e (suc i) n j (omega arith) ∙ ap (value_of_pattern_at f e) s

  values_from-behind : (e : List (ℕ × F)) (i n j : ℕ) → n ≤ j → coefficient f (values_from f e i n) j ≡ f.zero
  values_from-behind e i zero j h = refl
  values_from-behind e i (suc n) zero h = absurd (omega arith)
  values_from-behind e i (suc n) (suc j) h = values_from-behind e (suc i) n j (omega arith)

  none_above : (e : List (ℕ × F)) (n j : ℕ) → n < j → AllByRecursion (λ (p : ℕ × F). p.0 ≤ n) e → IsAmong j (locations e) → ⊥
  none_above [] n j h a m = m
  none_above (p ∷ e) n j h a (inl k) = absurd (omega (arith, k, a.0))
  none_above (p ∷ e) n j h a (inr m) = none_above e n j h a.1 m

  -- the values from location 0 to the highest are the pattern's polynomial
  pub whole_pattern : (g : List F) (e : List (ℕ × F)) (location n : ℕ) → location ≡ 0 → AllByRecursion (λ (p : ℕ × F). p.0 ≤ location + n) e
      → remainder_of f g (values_from f e location (n + 1)) ≡ remainder_of f g (pattern_polynomial f e)
  whole_pattern g e location n z a = remainder_of-same fl g (values_from f e location (n + 1)) (pattern_polynomial f e) same
    where
      same : (j : ℕ) → coefficient f (values_from f e location (n + 1)) j ≡ coefficient f (pattern_polynomial f e) j
      same j = elim (dec_lt j (n + 1)) [
        | yes k ↦ (let s : location + j ≡ j = omega arith in coefficient-values_from e location (n + 1) j k ∙ ap (value_of_pattern_at f e) s ∙ sym (coefficient-pattern_polynomial fl e j))
        | no k ↦ values_from-behind e location (n + 1) j (omega arith) ∙ sym (at_absent fl e j (none_above e (location + n) j (omega arith) a)) ∙ sym (coefficient-pattern_polynomial fl e j)
      ]
