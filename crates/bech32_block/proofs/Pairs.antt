-- All pairs of roots, in order.
use Rattle.std.specs.List.{Contains, All}
use Rattle.std.specs.List.Sorted.{IsStrictlyIncreasing}
use Rattle.std.proofs.Common.{◌≡◌, ℕ, zero, suc, ◌+◌, ◌<◌, ◌≤◌, List, [], ◌∷◌, length, get_or, ◌⊎◌, inl, inr, sym, ap, subst, ◌∙◌, refl}
use native.Mathlib.Omega.{arith}
use mathlib.Core.Logic.{◌≢◌}
use Rattle.std.proofs.Math.Decide.{dec_lt}
use Rattle.std.proofs.lemmas.List.Elements.{Contains-get_or}
use Rattle.bech32_block.specs.Series.{series_term, IsSeries, IsLongestSeries, Before}
use Rattle.bech32_block.proofs.Terms.{step_to, term-zero, term-one, step-leads, step-only, step-below, step-positive}

pub rising_far : (xs : List ℕ) → IsStrictlyIncreasing xs → (i j : ℕ) → i < j → j < length xs → get_or xs i 0 < get_or xs j 0
rising_far xs up i zero less below = absurd (omega arith)
rising_far xs up i (suc j) less below = elim (dec_lt i j) [
  | yes p ↦ let a : get_or xs i 0 < get_or xs j 0 = rising_far xs up i j p (omega arith) in omega (arith, next)
  | no p ↦ let same : j ≡ i = omega arith in subst (λ k. get_or xs k 0 < get_or xs (suc j) 0) same next
]
  where
    next : get_or xs j 0 < get_or xs (suc j) 0
    next = let e : j + 1 ≡ suc j = omega arith in subst (λ k. get_or xs j 0 < get_or xs k 0) e (up j (omega arith))

-- the pair of places (i', j') comes before (i, j)
abbrev pub Earlier : ℕ → ℕ → ℕ → ℕ → Type 0
Earlier i' j' i j = (i' < i) ⊎ ((i' ≡ i) × (j' < j))

-- the best series of those that begin with a pair before (i, j)
pub record Best (n : ℕ) (xs : List ℕ) (i j a d len : ℕ) : Type 0 where
  pub below : a < n
  pub root : Contains xs a
  pub series : IsSeries n xs a d len
  pub longest : (x y len' : ℕ) → Earlier x y i j → x < length xs → y < length xs → x ≢ y → IsSeries n xs (get_or xs x 0) (step_to n (get_or xs x 0) (get_or xs y 0)) len' → len' ≤ len
  pub first : (x y : ℕ) → Earlier x y i j → x < length xs → y < length xs → x ≢ y → IsSeries n xs (get_or xs x 0) (step_to n (get_or xs x 0) (get_or xs y 0)) len → Before a (series_term n a d 1) (get_or xs x 0) (get_or xs y 0)
  pub later : (x y : ℕ) → (Earlier x y i j → ⊥) → x < length xs → y < length xs → x ≢ y → Before a (series_term n a d 1) (get_or xs x 0) (get_or xs y 0)

earlier_more : (x y i j : ℕ) → Earlier x y i (j + 1) → Earlier x y i j ⊎ ((x ≡ i) × (y ≡ j))
earlier_more x y i j (inl h) = inl (inl h)
earlier_more x y i j (inr h) = elim (dec_lt y j) [
  | yes p ↦ inl (inr (h.0, p))
  | no p ↦ let k : y < j + 1 = h.1 in let e : y ≡ j = omega arith in inr (h.0, e)
]

still_earlier : (x y i j : ℕ) → Earlier x y i j → Earlier x y i (j + 1)
still_earlier x y i j (inl h) = inl h
still_earlier x y i j (inr h) = let k : y < j = h.1 in let l : y < j + 1 = omega arith in inr (h.0, l)

-- the pair (i, i) is none
pub skip : (n : ℕ) (xs : List ℕ) (i j a d len : ℕ) → Best n xs i j a d len → i ≡ j → Best n xs i (j + 1) a d len
skip n xs i j a d len b same = record {
  below = b.below;
  root = b.root;
  series = b.series;
  longest = λ x y len' h lx ly differ s. elim (earlier_more x y i j h) [ inl k ↦ b.longest x y len' k lx ly differ s | inr k ↦ absurd (differ (k.0 ∙ same ∙ sym k.1)) ];
  first = λ x y h lx ly differ s. elim (earlier_more x y i j h) [ inl k ↦ b.first x y k lx ly differ s | inr k ↦ absurd (differ (k.0 ∙ same ∙ sym k.1)) ];
  later = λ x y h lx ly differ. b.later x y (λ k. h (still_earlier x y i j k)) lx ly differ;
}

-- a pair whose series is no longer
pub keep : (n : ℕ) (xs : List ℕ) (i j a d len l : ℕ) → Best n xs i j a d len → i < length xs → j < length xs → i ≢ j → l ≤ len →
    ((len' : ℕ) → IsSeries n xs (get_or xs i 0) (step_to n (get_or xs i 0) (get_or xs j 0)) len' → len' ≤ l) → Best n xs i (j + 1) a d len
keep n xs i j a d len l b li lj apart le longest = record {
  below = b.below;
  root = b.root;
  series = b.series;
  longest = λ x y len' h lx ly differ s. elim (earlier_more x y i j h) [
    | inl k ↦ b.longest x y len' k lx ly differ s
    | inr k ↦ omega (arith, longest len' (at_pair x y len' k s))
  ];
  first = λ x y h lx ly differ s. elim (earlier_more x y i j h) [
    | inl k ↦ b.first x y k lx ly differ s
    | inr k ↦ b.later x y (not_yet x y k) lx ly differ
  ];
  later = λ x y h lx ly differ. b.later x y (λ k. h (still_earlier x y i j k)) lx ly differ;
}
  where
    at_pair : (x y len' : ℕ) → (x ≡ i) × (y ≡ j) → IsSeries n xs (get_or xs x 0) (step_to n (get_or xs x 0) (get_or xs y 0)) len' → IsSeries n xs (get_or xs i 0) (step_to n (get_or xs i 0) (get_or xs j 0)) len'
    at_pair x y len' k s =
        subst (λ u. IsSeries n xs (get_or xs u 0) (step_to n (get_or xs u 0) (get_or xs j 0)) len') k.0
        (subst (λ v. IsSeries n xs (get_or xs x 0) (step_to n (get_or xs x 0) (get_or xs v 0)) len') k.1 s)

    not_yet : (x y : ℕ) → (x ≡ i) × (y ≡ j) → Earlier x y i j → ⊥
    not_yet x y k (inl h) = let e : x ≡ i = k.0 in omega arith
    not_yet x y k (inr h) = let e : y ≡ j = k.1 in let l : y < j = h.1 in omega arith

-- the pairs not before a pair come after it
after : (xs : List ℕ) → IsStrictlyIncreasing xs → (i j x y : ℕ) → (Earlier x y i j → ⊥) → x < length xs → y < length xs → Before (get_or xs i 0) (get_or xs j 0) (get_or xs x 0) (get_or xs y 0)
after xs up i j x y never lx ly = elim (dec_lt i x) [
  | yes p ↦ inl (rising_far xs up i x p lx)
  | no p ↦ elim (dec_lt x i) [
    | yes q ↦ absurd (never (inl q))
    | no q ↦
        let same : i ≡ x = omega arith in
        elim (dec_lt y j) [
          | yes r ↦ absurd (never (inr (sym same, r)))
          | no r ↦ inr (ap (λ k. get_or xs k 0) same, risen r)
        ]
  ]
]
  where
    risen : (y < j → ⊥) → get_or xs j 0 ≤ get_or xs y 0
    risen r = elim (dec_lt j y) [
      | yes p ↦ let l : get_or xs j 0 < get_or xs y 0 = rising_far xs up j y p ly in omega arith
      | no p ↦ let same : j ≡ y = omega arith in let e : get_or xs j 0 ≡ get_or xs y 0 = ap (λ k. get_or xs k 0) same in omega arith
    ]

second : (n : ℕ) (xs : List ℕ) (i j : ℕ) → ((k : ℕ) → k < length xs → get_or xs k 0 < n) → i < length xs → j < length xs → series_term n (get_or xs i 0) (step_to n (get_or xs i 0) (get_or xs j 0)) 1 ≡ get_or xs j 0
second n xs i j small li lj = term-one n (get_or xs i 0) _ ∙ step-leads n (get_or xs i 0) (get_or xs j 0) (small i li) (small j lj)

-- a pair whose series is longer than all before
pub better : (n : ℕ) (xs : List ℕ) (i j a d len l : ℕ) → IsStrictlyIncreasing xs → ((k : ℕ) → k < length xs → get_or xs k 0 < n) → Best n xs i j a d len → i < length xs → j < length xs → i ≢ j → len < l →
    IsSeries n xs (get_or xs i 0) (step_to n (get_or xs i 0) (get_or xs j 0)) l →
    ((len' : ℕ) → IsSeries n xs (get_or xs i 0) (step_to n (get_or xs i 0) (get_or xs j 0)) len' → len' ≤ l) → Best n xs i (j + 1) (get_or xs i 0) (step_to n (get_or xs i 0) (get_or xs j 0)) l
better n xs i j a d len l up small b li lj apart more series longest = record {
  below = small i li;
  root = Contains-get_or xs i 0 li;
  series = series;
  longest = λ x y len' h lx ly differ s. elim (earlier_more x y i j h) [
    | inl k ↦ omega (arith, b.longest x y len' k lx ly differ s)
    | inr k ↦ longest len' (at_pair x y len' k s)
  ];
  first = λ x y h lx ly differ s. elim (earlier_more x y i j h) [
    | inl k ↦ absurd (omega (arith, b.longest x y l k lx ly differ s))
    | inr k ↦
        let e : get_or xs i 0 ≡ get_or xs x 0 = ap (λ u. get_or xs u 0) (sym k.0) in
        let g : get_or xs j 0 ≡ get_or xs y 0 = ap (λ u. get_or xs u 0) (sym k.1) in
        let t : series_term n (get_or xs i 0) (step_to n (get_or xs i 0) (get_or xs j 0)) 1 ≡ get_or xs j 0 = second n xs i j small li lj in
        let q : series_term n (get_or xs i 0) (step_to n (get_or xs i 0) (get_or xs j 0)) 1 ≤ get_or xs y 0 = omega arith in
        inr (e, q)
  ];
  later = λ x y h lx ly differ. subst (λ v. Before (get_or xs i 0) v (get_or xs x 0) (get_or xs y 0)) (sym (second n xs i j small li lj)) (after xs up i j x y (λ k. h (still_earlier x y i j k)) lx ly);
}
  where
    at_pair : (x y len' : ℕ) → (x ≡ i) × (y ≡ j) → IsSeries n xs (get_or xs x 0) (step_to n (get_or xs x 0) (get_or xs y 0)) len' → IsSeries n xs (get_or xs i 0) (step_to n (get_or xs i 0) (get_or xs j 0)) len'
    at_pair x y len' k s =
        subst (λ u. IsSeries n xs (get_or xs u 0) (step_to n (get_or xs u 0) (get_or xs j 0)) len') k.0
        (subst (λ v. IsSeries n xs (get_or xs x 0) (step_to n (get_or xs x 0) (get_or xs v 0)) len') k.1 s)

-- the first pair alone, before the loops
pub best_start : (n : ℕ) (xs : List ℕ) (l : ℕ) → IsStrictlyIncreasing xs → ((k : ℕ) → k < length xs → get_or xs k 0 < n) → 2 ≤ length xs →
    IsSeries n xs (get_or xs 0 0) (step_to n (get_or xs 0 0) (get_or xs 1 0)) l → Best n xs 0 0 (get_or xs 0 0) (step_to n (get_or xs 0 0) (get_or xs 1 0)) l
best_start n xs l up small two series = record {
  below = small 0 (omega arith);
  root = Contains-get_or xs 0 0 (omega arith);
  series = series;
  longest = λ x y len' h lx ly differ s. absurd (nothing x y h);
  first = λ x y h lx ly differ s. absurd (nothing x y h);
  later = λ x y h lx ly differ. subst (λ v. Before (get_or xs 0 0) v (get_or xs x 0) (get_or xs y 0)) (sym (second n xs 0 1 small (omega arith) two)) (after xs up 0 1 x y (not_first x y differ) lx ly);
}
  where
    nothing : (x y : ℕ) → Earlier x y 0 0 → ⊥
    nothing x y (inl h) = omega arith
    nothing x y (inr h) = let l : y < 0 = h.1 in omega arith

    not_first : (x y : ℕ) → x ≢ y → Earlier x y 0 1 → ⊥
    not_first x y differ (inl h) = omega arith
    not_first x y differ (inr h) = let e : x ≡ 0 = h.0 in let l : y < 1 = h.1 in let g : x ≡ y = omega arith in differ g

-- a whole row is done
pub row_done : (n : ℕ) (xs : List ℕ) (i j a d len : ℕ) → Best n xs i j a d len → length xs ≤ j → Best n xs (i + 1) 0 a d len
row_done n xs i j a d len b all = record {
  below = b.below;
  root = b.root;
  series = b.series;
  longest = λ x y len' h lx ly differ s. b.longest x y len' (back x y h ly) lx ly differ s;
  first = λ x y h lx ly differ s. b.first x y (back x y h ly) lx ly differ s;
  later = λ x y h lx ly differ. b.later x y (λ k. h (forth x y k)) lx ly differ;
}
  where
    back : (x y : ℕ) → Earlier x y (i + 1) 0 → y < length xs → Earlier x y i j
    back x y (inl h) ly = elim (dec_lt x i) [
      | yes p ↦ inl p
      | no p ↦ let e : x ≡ i = omega arith in let l : y < j = omega arith in inr (e, l)
    ]
    back x y (inr h) ly = let l : y < 0 = h.1 in absurd (omega arith)

    forth : (x y : ℕ) → Earlier x y i j → Earlier x y (i + 1) 0
    forth x y (inl h) = let l : x < i + 1 = omega arith in inl l
    forth x y (inr h) = let e : x ≡ i = h.0 in let l : x < i + 1 = omega arith in inl l

-- any two different roots begin a series
pair_series : (n : ℕ) (xs : List ℕ) (a b : ℕ) → a < n → b < n → a ≢ b → Contains xs a → Contains xs b → IsSeries n xs a (step_to n a b) 2
pair_series n xs a b la lb differ ra rb = record {
  step_positive = step-positive n a b la lb differ;
  step_below = step-below n a b (omega arith);
  are_roots = λ k l. elim (dec_lt 0 k) [
    | yes p ↦ let e : 1 ≡ k = omega arith in subst (λ m. Contains xs (series_term n a (step_to n a b) m)) e (subst (Contains xs) (sym one) rb)
    | no p ↦ let e : 0 ≡ k = omega arith in subst (λ m. Contains xs (series_term n a (step_to n a b) m)) e (subst (Contains xs) (sym (term-zero n a (step_to n a b) la)) ra)
  ];
  different = λ j k less under e.
      let z : j ≡ 0 = omega arith in
      let o : k ≡ 1 = omega arith in
      differ (sym (term-zero n a (step_to n a b) la) ∙ ap (series_term n a (step_to n a b)) (sym z) ∙ e ∙ ap (series_term n a (step_to n a b)) o ∙ one);
}
  where
    one : series_term n a (step_to n a b) 1 ≡ b
    one = term-one n a (step_to n a b) ∙ step-leads n a b la lb

-- a series of two roots or more begins with a pair
record Begins (n : ℕ) (xs : List ℕ) (a d : ℕ) : Type 0 where
  x : ℕ
  y : ℕ
  x_below : x < length xs
  y_below : y < length xs
  apart : x ≢ y
  x_is : get_or xs x 0 ≡ a
  y_is : get_or xs y 0 ≡ series_term n a d 1
  step_is : step_to n (get_or xs x 0) (get_or xs y 0) ≡ d

begins : (n : ℕ) (xs : List ℕ) (a d len : ℕ) → a < n → IsSeries n xs a d len → 1 < len → Begins n xs a d
begins n xs a d len la s p = at (s.are_roots 0 (omega arith)) (s.are_roots 1 p)
  where
    place : (k r : ℕ) → k < length xs → get_or xs k r ≡ r → get_or xs k 0 ≡ r
    place k r l e = same_default xs k l ∙ e
      where
        same_default : (ys : List ℕ) (i : ℕ) → i < length ys → get_or ys i 0 ≡ get_or ys i r
        same_default [] i h = absurd (omega arith)
        same_default (v ∷ ys) zero h = refl
        same_default (v ∷ ys) (suc i) h = same_default ys i (omega arith)

    at : Contains xs (series_term n a d 0) → Contains xs (series_term n a d 1) → Begins n xs a d
    at (x, lx, ex) (y, ly, ey) =
        let xa : get_or xs x 0 ≡ a = place x (series_term n a d 0) lx ex ∙ term-zero n a d la in
        let yb : get_or xs y 0 ≡ series_term n a d 1 = place y (series_term n a d 1) ly ey in
        record {
          x = x;
          y = y;
          x_below = lx;
          y_below = ly;
          apart = λ e. s.different 0 1 (omega arith) p (sym (place x (series_term n a d 0) lx ex) ∙ ap (λ k. get_or xs k 0) e ∙ yb);
          x_is = xa;
          y_is = yb;
          step_is = ap (λ u. step_to n u (get_or xs y 0)) xa ∙ ap (step_to n a) (yb ∙ term-one n a d) ∙ step-only n a d la s.step_below;
        }

-- the longest series has two roots at least, where there are two
pub at_least_two : (n : ℕ) (xs : List ℕ) (a d len : ℕ) → IsStrictlyIncreasing xs → All (λ i. i < n) xs → 2 ≤ length xs → IsLongestSeries n xs a d len → 2 ≤ len
at_least_two n xs a d len up below two s =
    let first : get_or xs 0 0 < n = below 0 0 (omega arith) in
    let second : get_or xs 1 0 < n = below 1 0 (omega arith) in
    s.longest (get_or xs 0 0) (step_to n (get_or xs 0 0) (get_or xs 1 0)) 2 first
    (pair_series n xs (get_or xs 0 0) (get_or xs 1 0) first second differ (Contains-get_or xs 0 0 (omega arith)) (Contains-get_or xs 1 0 (omega arith)))
  where
    differ : get_or xs 0 0 ≢ get_or xs 1 0
    differ e = let l : get_or xs 0 0 < get_or xs 1 0 = rising_far xs up 0 1 (omega arith) (omega arith) in omega arith

-- the best of all pairs is the longest series
pub run_of : (n : ℕ) (xs : List ℕ) (i j a d len : ℕ) → IsStrictlyIncreasing xs → ((k : ℕ) → k < length xs → get_or xs k 0 < n) → 2 ≤ length xs → Best n xs i j a d len → length xs ≤ i → IsLongestSeries n xs a d len
run_of n xs i j a d len up small two b all = record {
  below = b.below;
  series = b.series;
  longest = λ a' d' len' la s. elim (dec_lt 1 len') [
    | yes p ↦ long a' d' len' la s p
    | no p ↦ omega (arith, at_least)
  ];
  earliest = λ a' d' la s. early a' d' la s;
}
  where
    apart : get_or xs 0 0 ≢ get_or xs 1 0
    apart e = let l : get_or xs 0 0 < get_or xs 1 0 = rising_far xs up 0 1 (omega arith) (omega arith) in omega arith

    different_places : (z o : ℕ) → z ≡ 0 → o ≡ 1 → z ≢ o
    different_places z o e g h = omega arith

    at_least : 2 ≤ len
    at_least = b.longest 0 1 2 (inl (omega arith)) (omega arith) (omega arith) (different_places 0 1 refl refl)
        (pair_series n xs (get_or xs 0 0) (get_or xs 1 0) (small 0 (omega arith)) (small 1 (omega arith)) apart (Contains-get_or xs 0 0 (omega arith)) (Contains-get_or xs 1 0 (omega arith)))

    long : (a' d' len' : ℕ) → a' < n → IsSeries n xs a' d' len' → 1 < len' → len' ≤ len
    long a' d' len' la s p = at (begins n xs a' d' len' la s p)
      where
        at : Begins n xs a' d' → len' ≤ len
        at g = b.longest g.x g.y len' (inl (omega (arith, g.x_below))) g.x_below g.y_below g.apart (moved g)
          where
            moved : (g : Begins n xs a' d') → IsSeries n xs (get_or xs g.x 0) (step_to n (get_or xs g.x 0) (get_or xs g.y 0)) len'
            moved g = subst (λ e. IsSeries n xs (get_or xs g.x 0) e len') (sym g.step_is) (subst (λ u. IsSeries n xs u d' len') (sym g.x_is) s)

    early : (a' d' : ℕ) → a' < n → IsSeries n xs a' d' len → Before a (series_term n a d 1) a' (series_term n a' d' 1)
    early a' d' la s = at (begins n xs a' d' len la s (omega (arith, at_least)))
      where
        at : Begins n xs a' d' → Before a (series_term n a d 1) a' (series_term n a' d' 1)
        at g =
            subst (λ v. Before a (series_term n a d 1) a' v) g.y_is
            (subst (λ u. Before a (series_term n a d 1) u (get_or xs g.y 0)) g.x_is
            (b.first g.x g.y (inl (omega (arith, g.x_below))) g.x_below g.y_below g.apart
            (subst (λ e. IsSeries n xs (get_or xs g.x 0) e len) (sym g.step_is) (subst (λ u. IsSeries n xs u d' len) (sym g.x_is) s))))

pub places_apart : (xs : List ℕ) → IsStrictlyIncreasing xs → (i j : ℕ) → i ≢ j → i < length xs → j < length xs → get_or xs i 0 ≢ get_or xs j 0
places_apart xs up i j differ li lj e = elim (dec_lt i j) [
  | yes p ↦ let l : get_or xs i 0 < get_or xs j 0 = rising_far xs up i j p lj in omega arith
  | no p ↦ elim (dec_lt j i) [
    | yes q ↦ let l : get_or xs j 0 < get_or xs i 0 = rising_far xs up j i q li in omega arith
    | no q ↦ let same : i ≡ j = omega arith in absurd (differ same)
  ]
]
