-- Lists of coefficients that leave one remainder are the same, or differ in more places than are detected.
use Rattle.std.specs.Prelude.{Bool, true, false, cond, ◌≢◌}
use Rattle.std.specs.List.{AllByRecursion}
use Rattle.std.proofs.Common.{◌≡◌, ℕ, zero, suc, ◌+◌, ◌<◌, ◌≤◌, List, [], ◌∷◌, ◌++◌, length, ◌⊎◌, inl, inr, subst, sym, ap, ◌∙◌, refl, arith}
use Rattle.std.proofs.Math.Decide.{dec_lt}
use Rattle.bech32_gf.specs.Field.{Ops, IsField}
use Rattle.bech32_gf.specs.laws.Ring.{ring}
use Rattle.bech32_poly.specs.Distinct.{IsAmong, IsNotAmong, IsOnce}
use Rattle.bech32_poly.specs.Division.{remainder_of, zeros}
use Rattle.bech32_poly.specs.Pattern.{pattern_polynomial, value_of_pattern_at}
use Rattle.bech32_poly.specs.Polynomial.{add, coefficient, scale}
use Rattle.bech32_poly.specs.Remainder.{IsRemainder}
use Rattle.bech32_poly.proofs.Lists.{add-negative, coefficient-add, coefficient-scale}
use Rattle.bech32_poly.proofs.PatternSums.{coefficient-pattern_polynomial}
use Rattle.bech32_poly.proofs.Remainder.{remainder_of-add, remainder_of-same, remainder_of-scale, remainder_unique}
use Rattle.bech32_poly.proofs.Zero.{difference_zero}
use Rattle.bech32_bch.specs.Distance.{places_that_differ}
use Rattle.bech32_bch.specs.Pattern.{IsPattern, locations}
use Rattle.bech32_bch.proofs.Distance.{Tells}
use Rattle.bech32_bch.proofs.Patterns.{at_absent, at_first, at_rest}
use Rattle.bech32_bch.specs.Detection.{DetectsFour}
use Rattle.bech32_detect.proofs.FourTerms.{leaves_nothing}

module _ {F : Type 0} {f : Ops F} (fl : IsField f) (same : F → F → Bool) (tells : Tells same) where
  -- what the first list has, less what the second has, at each place where they differ, from location k on
  abbrev differences : ℕ → List F → List F → List (ℕ × F)
  differences k [] q = []
  differences k (x ∷ p) [] = []
  differences k (x ∷ p) (y ∷ q) = cond (same x y) (differences (suc k) p q) ((k, f.add x (f.neg y)) ∷ differences (suc k) p q)

  length-differences : (k : ℕ) (p q : List F) → length (differences k p q) ≡ places_that_differ same p q
  length-differences k [] q = refl
  length-differences k (x ∷ p) [] = refl
  length-differences k (x ∷ p) (y ∷ q) = step (same x y) (length-differences (suc k) p q)
    where
      step : (b : Bool) → length (differences (suc k) p q) ≡ places_that_differ same p q
          → length (cond b (differences (suc k) p q) ((k, f.add x (f.neg y)) ∷ differences (suc k) p q)) ≡ cond b (places_that_differ same p q) (suc (places_that_differ same p q))
      step true h = h
      step false h = ap suc h

  -- pairs at locations from k to below m
  abbrev Within : ℕ → ℕ → List (ℕ × F) → Type 0
  Within k m e = AllByRecursion (λ (p : ℕ × F). (k ≤ p.0) × (p.0 < m)) e

  lower : (k m : ℕ) (e : List (ℕ × F)) → Within (suc k) m e → Within k m e
  lower k m [] h = tt
  lower k m (p ∷ e) h = ((omega (arith, h.0.0), h.0.1), lower k m e h.1)

  within : (k m : ℕ) (p q : List F) → k + length p ≤ m → Within k m (differences k p q)
  within k m [] q h = tt
  within k m (x ∷ p) [] h = tt
  within k m (x ∷ p) (y ∷ q) h = step (same x y) (lower k m (differences (suc k) p q) (within (suc k) m p q (omega arith)))
    where
      step : (b : Bool) → Within k m (differences (suc k) p q) → Within k m (cond b (differences (suc k) p q) ((k, f.add x (f.neg y)) ∷ differences (suc k) p q))
      step true r = r
      step false r = ((omega arith, omega arith), r)

  below : (k m : ℕ) (e : List (ℕ × F)) → Within k m e → AllByRecursion (λ (p : ℕ × F). p.0 < m) e
  below k m [] h = tt
  below k m (p ∷ e) h = (h.0.1, below k m e h.1)

  not_there : (j k m : ℕ) (e : List (ℕ × F)) → j < k → Within k m e → IsNotAmong j (locations e)
  not_there j k m [] h r = tt
  not_there j k m (p ∷ e) h r = ((λ z. absurd (omega (arith, h, r.0.0, z))), not_there j k m e h r.1)

  absent : (j k m : ℕ) (e : List (ℕ × F)) → j < k → Within k m e → IsAmong j (locations e) → ⊥
  absent j k m [] h r a = a
  absent j k m (p ∷ e) h r (inl z) = omega (arith, h, r.0.0, z)
  absent j k m (p ∷ e) h r (inr a) = absent j k m e h r.1 a

  rest_within : (k : ℕ) (p q : List F) → Within (suc k) (suc k + length p) (differences (suc k) p q)
  rest_within k p q = within (suc k) (suc k + length p) p q (omega arith)

  once : (k : ℕ) (p q : List F) → IsOnce (locations (differences k p q))
  once k [] q = tt
  once k (x ∷ p) [] = tt
  once k (x ∷ p) (y ∷ q) = step (same x y) (once (suc k) p q) (not_there k (suc k) (suc k + length p) (differences (suc k) p q) (omega arith) (rest_within k p q))
    where
      step : (b : Bool) → IsOnce (locations (differences (suc k) p q)) → IsNotAmong k (locations (differences (suc k) p q))
          → IsOnce (locations (cond b (differences (suc k) p q) ((k, f.add x (f.neg y)) ∷ differences (suc k) p q)))
      step true r n = r
      step false r n = (n, r)

  values : (k : ℕ) (p q : List F) → AllByRecursion (λ (e : ℕ × F). e.1 ≢ f.zero) (differences k p q)
  values k [] q = tt
  values k (x ∷ p) [] = tt
  values k (x ∷ p) (y ∷ q) = step (tells x y) (values (suc k) p q)
    where
      Values : Bool → Type 0
      Values b = AllByRecursion (λ (e : ℕ × F). e.1 ≢ f.zero) (cond b (differences (suc k) p q) ((k, f.add x (f.neg y)) ∷ differences (suc k) p q))

      step : ((same x y ≡ true) × (x ≡ y)) ⊎ ((same x y ≡ false) × (x ≢ y)) → AllByRecursion (λ (e : ℕ × F). e.1 ≢ f.zero) (differences (suc k) p q) → Values (same x y)
      step (inl t) r = subst Values (sym t.0) r
      step (inr t) r = subst Values (sym t.0) ((λ z. t.1 (difference_zero fl x y z)), r)

  nothing_taken : (x y : F) → x ≡ y → f.zero ≡ f.add x (f.neg y)
  nothing_taken x y e = sym (fl.add_neg y) ∙ ap (λ u. f.add u (f.neg y)) (sym e)

  -- the differences have these values, whatever stands behind both lists
  at-differences : (k : ℕ) (p q rest : List F) → length p ≡ length q → (i : ℕ) → value_of_pattern_at f (differences k p q) (k + i) ≡ f.add (coefficient f (p ++ rest) i) (f.neg (coefficient f (q ++ rest) i))
  at-differences k [] [] rest e i = nothing_taken (coefficient f rest i) (coefficient f rest i) refl
  at-differences k [] (y ∷ q) rest e i = absurd (omega arith)
  at-differences k (x ∷ p) [] rest e i = absurd (omega arith)
  at-differences k (x ∷ p) (y ∷ q) rest e i = step (tells x y) (at-differences (suc k) p q rest (omega arith)) i
    where
      others : List (ℕ × F)
      others = differences (suc k) p q

      Value : ℕ → Bool → Type 0
      Value i b = value_of_pattern_at f (cond b others ((k, f.add x (f.neg y)) ∷ others)) (k + i) ≡ f.add (coefficient f ((x ∷ p) ++ rest) i) (f.neg (coefficient f ((y ∷ q) ++ rest) i))

      Next : Type 0
      Next = (j : ℕ) → value_of_pattern_at f others (suc k + j) ≡ f.add (coefficient f (p ++ rest) j) (f.neg (coefficient f (q ++ rest) j))

      next : Next → (j : ℕ) → value_of_pattern_at f others (k + suc j) ≡ f.add (coefficient f (p ++ rest) j) (f.neg (coefficient f (q ++ rest) j))
      next r j = let up : k + suc j ≡ suc k + j = omega arith in ap (value_of_pattern_at f others) up ∙ r j

      step : ((same x y ≡ true) × (x ≡ y)) ⊎ ((same x y ≡ false) × (x ≢ y)) → Next → (i : ℕ) → Value i (same x y)
      step (inl t) r zero =
          let here : k + 0 < suc k = omega arith in
          subst (Value 0) (sym t.0) (at_absent fl others (k + 0) (absent (k + 0) (suc k) (suc k + length p) others here (rest_within k p q)) ∙ nothing_taken x y t.1)
      step (inl t) r (suc j) = subst (Value (suc j)) (sym t.0) (next r j)
      step (inr t) r zero =
          let first : k + 0 ≡ k = omega arith in
          subst (Value 0) (sym t.0) (ap (value_of_pattern_at f ((k, f.add x (f.neg y)) ∷ others)) first
          ∙ at_first fl (k, f.add x (f.neg y)) others (not_there k (suc k) (suc k + length p) others (omega arith) (rest_within k p q)))
      step (inr t) r (suc j) =
          subst (Value (suc j)) (sym t.0) (at_rest fl (k, f.add x (f.neg y)) others (k + suc j) (λ z. absurd (omega (arith, z))) ∙ next r j)

  taken_off : (a b : F) → f.add a (f.neg b) ≡ f.add a (f.mul (f.neg f.one) b)
  taken_off a b = simp (ring, fl)

  nothing_left : (g p q rest r : List F) → length p ≡ length q → IsRemainder f g (p ++ rest) r → IsRemainder f g (q ++ rest) r
      → remainder_of f g (pattern_polynomial f (differences 0 p q)) ≡ zeros f (length g)
  nothing_left g p q rest r size left right =
      remainder_of-same fl g (pattern_polynomial f (differences 0 p q)) (add f (p ++ rest) (scale f (f.neg f.one) (q ++ rest))) same_polynomial
      ∙ remainder_of-add fl g (p ++ rest) (scale f (f.neg f.one) (q ++ rest))
      ∙ ap (add f (remainder_of f g (p ++ rest))) (remainder_of-scale fl g (f.neg f.one) (q ++ rest))
      ∙ ap (λ u. add f u (scale f (f.neg f.one) (remainder_of f g (q ++ rest)))) (sym (remainder_unique fl g (p ++ rest) r left))
      ∙ ap (λ u. add f r (scale f (f.neg f.one) u)) (sym (remainder_unique fl g (q ++ rest) r right))
      ∙ add-negative fl r
      ∙ ap (zeros f) left.short
    where
      same_polynomial : (i : ℕ) → coefficient f (pattern_polynomial f (differences 0 p q)) i ≡ coefficient f (add f (p ++ rest) (scale f (f.neg f.one) (q ++ rest))) i
      same_polynomial i =
          let first : i ≡ 0 + i = omega arith in
          coefficient-pattern_polynomial fl (differences 0 p q) i
          ∙ ap (value_of_pattern_at f (differences 0 p q)) first
          ∙ at-differences 0 p q rest size i
          ∙ taken_off _ _
          ∙ ap (f.add (coefficient f (p ++ rest) i)) (sym (coefficient-scale fl (f.neg f.one) (q ++ rest) i))
          ∙ sym (coefficient-add fl (p ++ rest) (scale f (f.neg f.one) (q ++ rest)) i)

  none_differ : (p q : List F) → length p ≡ length q → places_that_differ same p q ≡ 0 → p ≡ q
  none_differ [] [] e h = refl
  none_differ [] (y ∷ q) e h = absurd (omega arith)
  none_differ (x ∷ p) [] e h = absurd (omega arith)
  none_differ (x ∷ p) (y ∷ q) e h = step (tells x y) (none_differ p q (omega arith))
    where
      Count : Bool → ℕ
      Count b = cond b (places_that_differ same p q) (suc (places_that_differ same p q))

      step : ((same x y ≡ true) × (x ≡ y)) ⊎ ((same x y ≡ false) × (x ≢ y)) → (places_that_differ same p q ≡ 0 → p ≡ q) → x ∷ p ≡ y ∷ q
      step (inl t) r =
          let rest : places_that_differ same p q ≡ 0 = subst (λ b. Count b ≡ 0) t.0 h in
          ap (λ u. u ∷ p) t.1 ∙ ap (λ u. y ∷ u) (r rest)
      step (inr t) r =
          let some : suc (places_that_differ same p q) ≡ 0 = subst (λ b. Count b ≡ 0) t.0 h in
          absurd (omega arith)

  -- of two lists of n coefficients at most, with the same behind them
  pub detected : (g p q rest r : List F) (n : ℕ) → DetectsFour f g n → length p ≡ length q → length p ≤ n → IsRemainder f g (p ++ rest) r → IsRemainder f g (q ++ rest) r
      → (p ≡ q) ⊎ (4 < places_that_differ same p q)
  detected g p q rest r n detects size short left right = elim (dec_lt 4 (places_that_differ same p q)) [
    | yes far ↦ inr far
    | no near ↦ elim (dec_lt 0 (places_that_differ same p q)) [
      | yes some ↦ absurd (detects e pattern (omega (arith, count)) (omega (arith, count)) (leaves_nothing fl g e (nothing_left g p q rest r size left right)))
      | no none ↦ inl (none_differ p q size (omega arith))
    ]
  ]
    where
      e : List (ℕ × F)
      e = differences 0 p q

      count : length e ≡ places_that_differ same p q
      count = length-differences 0 p q

      pattern : IsPattern f n e
      pattern = record { below = below 0 n e (within 0 n p q (omega arith)); values = values 0 p q; once = once 0 p q }
