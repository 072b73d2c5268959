-- Lists of coefficients that leave one remainder are the same, or differ in more places than there are roots.
use Rattle.std.specs.Prelude.{Bool, true, false, cond, ◌≢◌}
use Rattle.std.specs.List.{AllByRecursion}
use Rattle.std.proofs.Common.{◌≡◌, ℕ, zero, suc, ◌+◌, ◌<◌, ◌≤◌, List, [], ◌∷◌, ◌++◌, map, length, reverse, ◌⊎◌, inl, inr, subst, sym, ap, ◌∙◌, refl, arith}
use Rattle.std.proofs.Math.Decide.{dec_lt}
use Rattle.std.proofs.lemmas.List.{length-reverse}
use Rattle.bech32_gf.specs.Field.{Ops, IsField, power}
use Rattle.bech32_gf.specs.laws.Ring.{ring}
use Rattle.bech32_poly.specs.Distinct.{IsAmong, IsOnce}
use Rattle.bech32_poly.specs.Division.{remainder_of, zeros}
use Rattle.bech32_poly.specs.Embedding.{Embeds}
use Rattle.bech32_poly.specs.Pattern.{inside, pattern_polynomial, power_sum, value_of_pattern_at}
use Rattle.bech32_poly.specs.Polynomial.{add, coefficient, scale}
use Rattle.bech32_poly.specs.Remainder.{IsRemainder}
use Rattle.bech32_poly.proofs.Embedding.{embed-zero}
use Rattle.bech32_poly.proofs.Lists.{add-negative, coefficient-add, coefficient-scale}
use Rattle.bech32_poly.proofs.PatternSums.{coefficient-pattern_polynomial, residue_syndrome, value_of_pattern_at-inside}
use Rattle.bech32_poly.proofs.Registers.{reverse_cons}
use Rattle.bech32_poly.proofs.Remainder.{remainder_of-add, remainder_of-same, remainder_of-scale, remainder_unique}
use Rattle.bech32_poly.proofs.Zero.{difference_zero, power_distinct, power_not_zero}
use Rattle.bech32_bch.specs.Distance.{places_that_differ}
use Rattle.bech32_bch.specs.Search.{AreUsableRoots}
use Rattle.bech32_bch.proofs.Alone.{mem_or_not, same_values}
use Rattle.bech32_bch.proofs.Patterns.{at_absent, at_listed, locations_listed}

module _ {A : Type 0} (same : A → A → Bool) where
  -- the test tells whether two items are equal
  abbrev pub Tells : Type 0
  Tells = (x y : A) → ((same x y ≡ true) × (x ≡ y)) ⊎ ((same x y ≡ false) × (x ≢ y))

  -- ---- places that differ, counted from either end

  pub places_that_differ-append : (xs ys vs ws : List A) → length xs ≡ length ys → places_that_differ same (xs ++ vs) (ys ++ ws) ≡ places_that_differ same xs ys + places_that_differ same vs ws
  places_that_differ-append [] [] vs ws e = omega arith
  places_that_differ-append [] (y ∷ ys) vs ws e = absurd (omega arith)
  places_that_differ-append (x ∷ xs) [] vs ws e = absurd (omega arith)
  places_that_differ-append (x ∷ xs) (y ∷ ys) vs ws e = step (same x y) (places_that_differ-append xs ys vs ws (omega arith))
    where
      step : (b : Bool) → places_that_differ same (xs ++ vs) (ys ++ ws) ≡ places_that_differ same xs ys + places_that_differ same vs ws
          → cond b (places_that_differ same (xs ++ vs) (ys ++ ws)) (suc (places_that_differ same (xs ++ vs) (ys ++ ws))) ≡ cond b (places_that_differ same xs ys) (suc (places_that_differ same xs ys)) + places_that_differ same vs ws
      step true h = h
      step false h = omega (arith, h)

  pub places_that_differ-reverse : (xs ys : List A) → length xs ≡ length ys → places_that_differ same (reverse xs) (reverse ys) ≡ places_that_differ same xs ys
  places_that_differ-reverse [] [] e = refl
  places_that_differ-reverse [] (y ∷ ys) e = absurd (omega arith)
  places_that_differ-reverse (x ∷ xs) [] e = absurd (omega arith)
  places_that_differ-reverse (x ∷ xs) (y ∷ ys) e =
      let sizes : length (reverse xs) ≡ length (reverse ys) = omega (arith, e, length-reverse xs, length-reverse ys) in
      let turned : places_that_differ same (reverse (x ∷ xs)) (reverse (y ∷ ys)) ≡ places_that_differ same (reverse xs ++ x ∷ []) (reverse ys ++ y ∷ []) =
      λ k. places_that_differ same (reverse_cons x xs k) (reverse_cons y ys k) in
      turned
      ∙ places_that_differ-append (reverse xs) (reverse ys) (x ∷ []) (y ∷ []) sizes
      ∙ ap (λ n. n + places_that_differ same (x ∷ []) (y ∷ [])) (places_that_differ-reverse xs ys (omega arith))
      ∙ step (same x y)
    where
      step : (b : Bool) → places_that_differ same xs ys + cond b 0 1 ≡ cond b (places_that_differ same xs ys) (suc (places_that_differ same xs ys))
      step true = omega arith
      step false = omega arith

  -- ---- the list of them, from k on

  abbrev places : ℕ → List A → List A → List ℕ
  places k [] ys = []
  places k (x ∷ xs) [] = []
  places k (x ∷ xs) (y ∷ ys) = cond (same x y) (places (suc k) xs ys) (k ∷ places (suc k) xs ys)

  length-places : (k : ℕ) (xs ys : List A) → length (places k xs ys) ≡ places_that_differ same xs ys
  length-places k [] ys = refl
  length-places k (x ∷ xs) [] = refl
  length-places k (x ∷ xs) (y ∷ ys) = step (same x y) (length-places (suc k) xs ys)
    where
      step : (b : Bool) → length (places (suc k) xs ys) ≡ places_that_differ same xs ys
          → length (cond b (places (suc k) xs ys) (k ∷ places (suc k) xs ys)) ≡ cond b (places_that_differ same xs ys) (suc (places_that_differ same xs ys))
      step true h = h
      step false h = ap suc h

  weaker : (P Q : ℕ → Type 0) → ((i : ℕ) → P i → Q i) → (ms : List ℕ) → AllByRecursion P ms → AllByRecursion Q ms
  weaker P Q f [] h = tt
  weaker P Q f (m ∷ ms) h = (f m h.0, weaker P Q f ms h.1)

  places-within : (k : ℕ) (xs ys : List A) → AllByRecursion (λ i. (k ≤ i) × (i < k + length xs)) (places k xs ys)
  places-within k [] ys = tt
  places-within k (x ∷ xs) [] = tt
  places-within k (x ∷ xs) (y ∷ ys) =
      step (same x y) (weaker (λ i. (suc k ≤ i) × (i < suc k + length xs)) (λ i. (k ≤ i) × (i < k + suc (length xs))) (λ i h. (omega (arith, h.0), omega (arith, h.1))) (places (suc k) xs ys) (places-within (suc k) xs ys))
    where
      step : (b : Bool) → AllByRecursion (λ i. (k ≤ i) × (i < k + suc (length xs))) (places (suc k) xs ys)
          → AllByRecursion (λ i. (k ≤ i) × (i < k + suc (length xs))) (cond b (places (suc k) xs ys) (k ∷ places (suc k) xs ys))
      step true h = h
      step false h = ((omega arith, omega arith), h)

  places-once : (k : ℕ) (xs ys : List A) → IsOnce (places k xs ys)
  places-once k [] ys = tt
  places-once k (x ∷ xs) [] = tt
  places-once k (x ∷ xs) (y ∷ ys) =
      step (same x y) (places-once (suc k) xs ys)
      (weaker (λ i. (suc k ≤ i) × (i < suc k + length xs)) (λ i. k ≢ i) (λ i h e. absurd (omega (arith, h.0, e))) (places (suc k) xs ys) (places-within (suc k) xs ys))
    where
      step : (b : Bool) → IsOnce (places (suc k) xs ys) → AllByRecursion (λ i. k ≢ i) (places (suc k) xs ys) → IsOnce (cond b (places (suc k) xs ys) (k ∷ places (suc k) xs ys))
      step true h n = h
      step false h n = (n, h)

module _ {F : Type 0} {f : Ops F} (fl : IsField f) (same : F → F → Bool) (tells : Tells same) where
  -- away from these places the coefficients are the same, whatever stands behind both lists
  same_elsewhere : (k : ℕ) (p q rest : List F) → length p ≡ length q → (i : ℕ) → (IsAmong (k + i) (places same k p q) → ⊥) → coefficient f (p ++ rest) i ≡ coefficient f (q ++ rest) i
  same_elsewhere k [] [] rest e i n = refl
  same_elsewhere k [] (y ∷ q) rest e i n = absurd (omega arith)
  same_elsewhere k (x ∷ p) [] rest e i n = absurd (omega arith)
  same_elsewhere k (x ∷ p) (y ∷ q) rest e i n = step (tells x y) (same_elsewhere (suc k) p q rest (omega arith)) i n
    where
      step : ((same x y ≡ true) × (x ≡ y)) ⊎ ((same x y ≡ false) × (x ≢ y))
          → ((j : ℕ) → (IsAmong (suc k + j) (places same (suc k) p q) → ⊥) → coefficient f (p ++ rest) j ≡ coefficient f (q ++ rest) j)
          → (i : ℕ) → (IsAmong (k + i) (cond (same x y) (places same (suc k) p q) (k ∷ places same (suc k) p q)) → ⊥)
          → coefficient f ((x ∷ p) ++ rest) i ≡ coefficient f ((y ∷ q) ++ rest) i
      step (inl h) r zero n = h.1
      step (inl h) r (suc j) n =
          let next : suc k + j ≡ k + suc j = omega arith in
          r j (λ m. n (subst (λ b. IsAmong (k + suc j) (cond b (places same (suc k) p q) (k ∷ places same (suc k) p q))) (sym h.0) (subst (λ u. IsAmong u (places same (suc k) p q)) next m)))
      step (inr h) r zero n =
          let first : k + 0 ≡ k = omega arith in
          absurd (n (subst (λ b. IsAmong (k + 0) (cond b (places same (suc k) p q) (k ∷ places same (suc k) p q))) (sym h.0) (inl first)))
      step (inr h) r (suc j) n =
          let next : suc k + j ≡ k + suc j = omega arith in
          r j (λ m. n (subst (λ b. IsAmong (k + suc j) (cond b (places same (suc k) p q) (k ∷ places same (suc k) p q))) (sym h.0) (inr (subst (λ u. IsAmong u (places same (suc k) p q)) next m))))

  same_lists : (p q rest : List F) → length p ≡ length q → ((i : ℕ) → coefficient f (p ++ rest) i ≡ coefficient f (q ++ rest) i) → p ≡ q
  same_lists [] [] rest e h = refl
  same_lists [] (y ∷ q) rest e h = absurd (omega arith)
  same_lists (x ∷ p) [] rest e h = absurd (omega arith)
  same_lists (x ∷ p) (y ∷ q) rest e h = ap (λ u. u ∷ p) (h 0) ∙ ap (λ u. y ∷ u) (same_lists p q rest (omega arith) (λ i. h (suc i)))

  zero_of_same : (a b : F) → a ≡ b → f.add a (f.mul (f.neg f.one) b) ≡ f.zero
  zero_of_same a b e = rw e (simp (ring, fl))

  taken_off : (a b : F) → f.add a (f.mul (f.neg f.one) b) ≡ f.add a (f.neg b)
  taken_off a b = simp (ring, fl)

  module _ (g p q rest r : List F) (size : length p ≡ length q) (left : IsRemainder f g (p ++ rest) r) (right : IsRemainder f g (q ++ rest) r) where
    -- what the first list has at a place, less what the second has there
    abbrev difference : ℕ → F
    difference i = f.add (coefficient f (p ++ rest) i) (f.mul (f.neg f.one) (coefficient f (q ++ rest) i))

    -- the pattern of these at the places that differ
    abbrev differences : List (ℕ × F)
    differences = map (λ i. (i, difference i)) (places same 0 p q)

    at-differences : (i : ℕ) → value_of_pattern_at f differences i ≡ difference i
    at-differences i = elim (mem_or_not i (places same 0 p q)) [
      | inl m ↦ at_listed fl difference (places same 0 p q) i (places-once same 0 p q) m
      | inr n ↦ at_absent fl differences i (λ m. n (subst (λ u. IsAmong i u) (locations_listed difference (places same 0 p q)) m))
          ∙ sym (zero_of_same _ _ (same_elsewhere 0 p q rest size i (let first : 0 + i ≡ i = omega arith in λ m. n (subst (λ u. IsAmong u (places same 0 p q)) first m))))
    ]

    nothing_left : remainder_of f g (pattern_polynomial f differences) ≡ zeros f (length g)
    nothing_left =
        remainder_of-same fl g (pattern_polynomial f differences) (add f (p ++ rest) (scale f (f.neg f.one) (q ++ rest))) same_polynomial
        ∙ remainder_of-add fl g (p ++ rest) (scale f (f.neg f.one) (q ++ rest))
        ∙ ap (add f (remainder_of f g (p ++ rest))) (remainder_of-scale fl g (f.neg f.one) (q ++ rest))
        ∙ ap (λ u. add f u (scale f (f.neg f.one) (remainder_of f g (q ++ rest)))) (sym (remainder_unique fl g (p ++ rest) r left))
        ∙ ap (λ u. add f r (scale f (f.neg f.one) u)) (sym (remainder_unique fl g (q ++ rest) r right))
        ∙ add-negative fl r
        ∙ ap (zeros f) left.short
      where
        same_polynomial : (i : ℕ) → coefficient f (pattern_polynomial f differences) i ≡ coefficient f (add f (p ++ rest) (scale f (f.neg f.one) (q ++ rest))) i
        same_polynomial i =
            coefficient-pattern_polynomial fl differences i
            ∙ at-differences i
            ∙ ap (f.add (coefficient f (p ++ rest) i)) (sym (coefficient-scale fl (f.neg f.one) (q ++ rest) i))
            ∙ sym (coefficient-add fl (p ++ rest) (scale f (f.neg f.one) (q ++ rest)) i)

module _ {F K : Type 0} {f : Ops F} {o : Ops K} (fl : IsField f) (l : IsField o) {embed : F → K} (into : Embeds f o embed) (same : F → F → Bool) (tells : Tells same) where
  all_among : (h : ℕ → F) (ms all : List ℕ) → ((i : ℕ) → IsAmong i ms → IsAmong i all) → AllByRecursion (λ (e : ℕ × K). IsAmong e.0 all) (inside embed (map (λ i. (i, h i)) ms))
  all_among h [] all keep = tt
  all_among h (m ∷ ms) all keep = (keep m (inl refl), all_among h ms all (λ i k. keep i (inr k)))

  -- of two lists of w coefficients at most, with the same behind them
  pub distance : (b : K) (start count w : ℕ) (g p q rest r : List F) → ((x y : F) → embed x ≡ embed y → x ≡ y) → AreUsableRoots f o embed g b start count w
      → length p ≡ length q → length p ≤ w → IsRemainder f g (p ++ rest) r → IsRemainder f g (q ++ rest) r → (p ≡ q) ⊎ (count < places_that_differ same p q)
  distance b start count w g p q rest r apart usable size within left right = elim (dec_lt count (places_that_differ same p q)) [
    | yes far ↦ inr far
    | no near ↦ inl (same_lists fl same tells p q rest size (everywhere near))
  ]
    where
      ms : List ℕ
      ms = places same 0 p q

      e : List (ℕ × F)
      e = differences fl same tells g p q rest r size left right

      differ : (m n : ℕ) → m < w → n < w → m ≢ n → power o b m ≢ power o b n
      differ m n h k d =
          let long : w ≤ usable.order.order = usable.order.long_enough in
          elim (dec_lt m n) [
            | yes below ↦ power_distinct l b usable.order.order m n usable.order.is_order usable.order.not_zero below (omega arith)
            | no above ↦ λ z. power_distinct l b usable.order.order n m usable.order.is_order usable.order.not_zero (omega arith) (omega arith) (sym z)
          ]

      below : AllByRecursion (λ m. m < w) ms
      below = weaker same (λ i. (0 ≤ i) × (i < 0 + length p)) (λ m. m < w) (λ i h. omega (arith, h.1, within)) ms (places-within same 0 p q)

      sums : (t : ℕ) → t < count → power_sum o (λ m. power o b m) (λ m. power o (power o b m) start) (inside embed e) t ≡ o.zero
      sums t h =
          sym (residue_syndrome fl l into b g (zeros f (length g)) e start t (usable.roots t h) (nothing_left fl same tells g p q rest r size left right))
          ∙ residue_syndrome fl l into b g (zeros f (length g)) [] start t (usable.roots t h) refl

      vanish : (count < places_that_differ same p q → ⊥) → (i : ℕ) → value_of_pattern_at o (inside embed e) i ≡ o.zero
      vanish near = same_values l (λ m. power o b m) (λ m. power o (power o b m) start) w count ms (inside embed e) [] differ
          (λ m. power_not_zero l (power o b m) (power_not_zero l b usable.order.not_zero m) start) below (omega (arith, length-places same 0 p q))
          (all_among (difference fl same tells g p q rest r size left right) ms ms (λ i m. m)) tt sums

      everywhere : (count < places_that_differ same p q → ⊥) → (i : ℕ) → coefficient f (p ++ rest) i ≡ coefficient f (q ++ rest) i
      everywhere near i =
          let none : value_of_pattern_at f e i ≡ f.zero = apart _ _ (sym (value_of_pattern_at-inside fl l into e i) ∙ vanish near i ∙ sym (embed-zero fl l into)) in
          difference_zero fl _ _ (sym (taken_off fl same tells _ _) ∙ sym (at-differences fl same tells g p q rest r size left right i) ∙ none)
