-- The shortest register of the sums of powers of few terms vanishes exactly at their locators.
use Rattle.std.specs.Prelude.{◌==◌, true, false}
use Rattle.std.specs.List.{AllByRecursion}
use Rattle.std.proofs.Common.{◌≡◌, ℕ, suc, ◌+◌, ◌*◌, ◌<◌, ◌≤◌, ◌-◌, List, [], ◌∷◌, map, length, ◌⊎◌, inl, inr, sym, ap, ◌∙◌, refl}
use Rattle.std.proofs.lemmas.Bool.Decides.{eqb_tells}
use Rattle.std.proofs.Common.{arith}
use Rattle.std.specs.Prelude.{◌≢◌}
use Rattle.bech32_gf.specs.Field.{Ops, IsField, value_at, power}
use Rattle.bech32_poly.specs.Pattern.{value_of_pattern_at}
use Rattle.bech32_poly.specs.Window.{act, top_of, Annihilates}
use Rattle.bech32_gf.specs.laws.Ring.{ring}
use Rattle.bech32_poly.proofs.Zero.{no_zero_divisors, product_not_zero}
use Rattle.bech32_poly.proofs.Window.{act-cong}
use Rattle.bech32_bch.specs.Knock.{knock, knocks, gap, without}
use Rattle.bech32_poly.specs.Pattern.{power_sum}
use Rattle.bech32_bch.proofs.Knock.{knocks-cong, knocks-power_sum, isolate, Covered, gap-zero}
use Rattle.bech32_poly.specs.Distinct.{IsAmong, IsOnce, IsNotAmong}
use Rattle.bech32_poly.proofs.Roots.{root_bound}
use Rattle.bech32_bch.proofs.Alone.{mem-without, length-without_mem, All-without, mem_or_not, gap_not_zero}

-- (x - y) p + c
abbrev pub lin : {K : Type 0} → Ops K → K → K → List K → List K
lin o y c [] = c ∷ []
lin o y c (a ∷ p) = o.add c (o.neg (o.mul y a)) ∷ lin o y a p

-- the product of x - y over the list
abbrev pub roots_poly : {K : Type 0} → Ops K → List K → List K
roots_poly o [] = o.one ∷ []
roots_poly o (y ∷ ys) = lin o y o.zero (roots_poly o ys)

length-map_ : {K : Type 0} (f : ℕ → K) (xs : List ℕ) → length (map f xs) ≡ length xs
length-map_ f [] = refl
length-map_ f (x ∷ xs) = ap suc (length-map_ f xs)

module _ {K : Type 0} {o : Ops K} (l : IsField o) where
  power_step : (a v c ev' z pt w w' x : K) → x ≡ o.add (o.mul a w) w' → o.add (o.mul a (o.add (o.mul (o.mul v c) pt) w)) (o.add (o.mul (o.mul v (o.mul ev' c)) (o.mul z pt)) w') ≡ o.add (o.mul (o.mul v (o.mul (o.add a (o.mul z ev')) c)) pt) x
  power_step a v c ev' z pt w w' x e = rw e (simp (ring, l))

  power_none : (a : K) → o.add (o.mul a o.zero) o.zero ≡ o.zero
  power_none a = simp (ring, l)

  joined : (loc c : ℕ → K) (a : K) (p : List K) (e : List (ℕ × K)) (t : ℕ) →
      o.add (o.mul a (power_sum o loc c e t)) (power_sum o loc (λ m. o.mul (value_at o (loc m) p) (c m)) e (suc t)) ≡ power_sum o loc (λ m. o.mul (o.add a (o.mul (loc m) (value_at o (loc m) p))) (c m)) e t
  unfolding power
  joined loc c a p [] t = power_none a
  joined loc c a p (q ∷ e) t = power_step a q.1 (c q.0) (value_at o (loc q.0) p) (loc q.0) (power o (loc q.0) t) _ _ _ (sym (joined loc c a p e t))

  no_coefficients : (loc c : ℕ → K) (e : List (ℕ × K)) (t : ℕ) → o.zero ≡ power_sum o loc (λ m. o.mul o.zero (c m)) e t
  no_coefficients loc c [] t = refl
  no_coefficients loc c (q ∷ e) t = gone q.1 (c q.0) (power o (loc q.0) t) _ (no_coefficients loc c e t)
    where
      gone : (v d pt w : K) → o.zero ≡ w → o.zero ≡ o.add (o.mul (o.mul v (o.mul o.zero d)) pt) w
      gone v d pt w e = rw (← e) (simp (ring, l))

  -- coefficients applied to sums of powers weigh each term by the value at its locator
  pub act-power_sum : (p : List K) (loc c : ℕ → K) (e : List (ℕ × K)) (t : ℕ) → act o p (power_sum o loc c e) t ≡ power_sum o loc (λ m. o.mul (value_at o (loc m) p) (c m)) e t
  act-power_sum [] loc c e t = no_coefficients loc c e t
  act-power_sum (a ∷ p) loc c e t = ap (o.add (o.mul a (power_sum o loc c e t))) (act-power_sum p loc c e (suc t)) ∙ joined loc c a p e t

  knock_each : (a y s0 s1 u v w : K) → w ≡ o.add u (o.neg (o.mul y v)) → o.add (o.mul a (o.add s1 (o.neg (o.mul y s0)))) w ≡ o.add (o.add (o.mul a s1) u) (o.neg (o.mul y (o.add (o.mul a s0) v)))
  knock_each a y s0 s1 u v w e = rw e (simp (ring, l))

  knock_none : (y : K) → o.zero ≡ o.add o.zero (o.neg (o.mul y o.zero))
  knock_none y = simp (ring, l)

  pub act-knock : (p : List K) (y : K) (s : ℕ → K) (t : ℕ) → act o p (knock o y s) t ≡ knock o y (act o p s) t
  act-knock [] y s t = knock_none y
  act-knock (a ∷ p) y s t = knock_each a y (s t) (s (suc t)) _ _ _ (act-knock p y s (suc t))

  lin_step : (c a y s0 s1 w : K) → o.add (o.mul (o.add c (o.neg (o.mul y a))) s0) (o.add (o.mul a s1) w) ≡ o.add (o.mul c s0) (o.add (o.mul a (o.add s1 (o.neg (o.mul y s0)))) w)
  lin_step c a y s0 s1 w = simp (ring, l)

  act-lin : (y c : K) (p : List K) (s : ℕ → K) (t : ℕ) → act o (lin o y c p) s t ≡ o.add (o.mul c (s t)) (act o p (knock o y s) t)
  act-lin y c [] s t = refl
  act-lin y c (a ∷ p) s t = ap (o.add (o.mul (o.add c (o.neg (o.mul y a))) (s t))) (act-lin y a p s (suc t)) ∙ lin_step c a y (s t) (s (suc t)) _

  nothing_first : (x u w : K) → u ≡ w → o.add (o.mul o.zero x) u ≡ w
  nothing_first x u w e = rw e (simp (ring, l))

  one_place : (x : K) → o.add (o.mul o.one x) o.zero ≡ x
  one_place x = simp (ring, l)

  pub act-roots_poly : (ys : List K) (s : ℕ → K) (t : ℕ) → act o (roots_poly o ys) s t ≡ knocks o ys s t
  act-roots_poly [] s t = one_place (s t)
  act-roots_poly (y ∷ ys) s t =
      let now : act o (roots_poly o ys) s t ≡ knocks o ys s t = act-roots_poly ys s t in
      let next : act o (roots_poly o ys) s (suc t) ≡ knocks o ys s (suc t) = act-roots_poly ys s (suc t) in
      act-lin y o.zero (roots_poly o ys) s t ∙ nothing_first (s t) _ _ (act-knock (roots_poly o ys) y s t ∙ cc (now, next))

  length-lin : (y c : K) (p : List K) → length (lin o y c p) ≡ suc (length p)
  length-lin y c [] = refl
  length-lin y c (a ∷ p) = ap suc (length-lin y a p)

  top_of-lin : (y c a : K) (p : List K) → top_of o (lin o y c (a ∷ p)) ≡ top_of o (a ∷ p)
  top_of-lin y c a [] = refl
  top_of-lin y c a (b ∷ p) = top_of-lin y a b p

  pub length-roots_poly : (ys : List K) → length (roots_poly o ys) ≡ suc (length ys)
  length-roots_poly [] = refl
  length-roots_poly (y ∷ ys) = length-lin y o.zero (roots_poly o ys) ∙ ap suc (length-roots_poly ys)

  pub top_of-roots_poly : (ys : List K) → top_of o (roots_poly o ys) ≡ o.one
  top_of-roots_poly [] = refl
  top_of-roots_poly (y ∷ ys) = kept (roots_poly o ys) (length-roots_poly ys) ∙ top_of-roots_poly ys
    where
      kept : (p : List K) → length p ≡ suc (length ys) → top_of o (lin o y o.zero p) ≡ top_of o p
      kept [] e = absurd (omega arith)
      kept (a ∷ p) e = top_of-lin y o.zero a p

  knocks-nothing : (ys : List K) (t : ℕ) → knocks o ys (λ _. o.zero) t ≡ o.zero
  knocks-nothing [] t = refl
  knocks-nothing (y ∷ ys) t =
      let now : knocks o ys (λ _. o.zero) t ≡ o.zero = knocks-nothing ys t in
      let next : knocks o ys (λ _. o.zero) (suc t) ≡ o.zero = knocks-nothing ys (suc t) in
      none_of _ _ next now
    where
      none_of : (u v : K) → u ≡ o.zero → v ≡ o.zero → o.add u (o.neg (o.mul y v)) ≡ o.zero
      none_of u v e f = rw (e, f) (simp (ring, l))

  -- all weights nothing, nothing summed
  power_sum-nothing : (loc c : ℕ → K) (e : List (ℕ × K)) (t : ℕ) → AllByRecursion (λ (p : ℕ × K). c p.0 ≡ o.zero) e → power_sum o loc c e t ≡ o.zero
  power_sum-nothing loc c [] t h = refl
  power_sum-nothing loc c (q ∷ e) t h = gone q.1 (c q.0) (power o (loc q.0) t) _ h.0 (power_sum-nothing loc c e t h.1)
    where
      gone : (v d pt w : K) → d ≡ o.zero → w ≡ o.zero → o.add (o.mul (o.mul v d) pt) w ≡ o.zero
      gone v d pt w e f = rw (e, f) (simp (ring, l))

  weightless : (g c : K) → c ≡ o.zero → o.mul g c ≡ o.zero
  weightless g c e = rw e (simp (ring, l))

  gapless : (g c : K) → g ≡ o.zero → o.mul g c ≡ o.zero
  gapless g c e = rw e (simp (ring, l))

  all_gone : (loc c : ℕ → K) (ms : List ℕ) (e : List (ℕ × K)) → AllByRecursion (λ (p : ℕ × K). IsAmong p.0 ms ⊎ (c p.0 ≡ o.zero)) e → AllByRecursion (λ (p : ℕ × K). o.mul (gap o (loc p.0) (map loc ms)) (c p.0) ≡ o.zero) e
  all_gone loc c ms [] h = tt
  all_gone loc c ms (q ∷ e) h = (elim h.0 [ inl m ↦ gapless _ (c q.0) (gap-zero l loc q.0 ms m) | inr z ↦ weightless (gap o (loc q.0) (map loc ms)) _ z ], all_gone loc c ms e h.1)

  -- the product of x - locator is a register for the sums
  pub product_generates : (loc c : ℕ → K) (s : ℕ → K) (n : ℕ) (ms : List ℕ) (e : List (ℕ × K)) → AllByRecursion (λ (p : ℕ × K). IsAmong p.0 ms ⊎ (c p.0 ≡ o.zero)) e →
      ((t : ℕ) → t < n → s t ≡ power_sum o loc c e t) → Annihilates o s n (length ms) (roots_poly o (map loc ms))
  product_generates loc c s n ms e h is = record {
    degree = length-roots_poly (map loc ms) ∙ ap suc (length-map_ loc ms);
    monic = top_of-roots_poly (map loc ms);
    windows = λ t within.
        act-roots_poly (map loc ms) s t
        ∙ knocks-cong l (map loc ms) s (power_sum o loc c e) n t is (simp length-map_ (omega arith))
        ∙ knocks-power_sum l loc c e (map loc ms) t
        ∙ power_sum-nothing loc _ e t (all_gone loc c ms e h);
  }

  covered : (loc c : ℕ → K) (r : List K) (e : List (ℕ × K)) (i : ℕ) (ms : List ℕ) → AllByRecursion (λ (p : ℕ × K). IsAmong p.0 ms ⊎ (c p.0 ≡ o.zero)) e → Covered l (λ m. o.mul (value_at o (loc m) r) (c m)) i (without i ms) e
  covered loc c r [] i ms h = tt
  covered loc c r (p ∷ e) i ms h = (step (eqb_tells p.0 i) h.0, covered loc c r e i ms h.1)
    where
      step : ((p.0 == i) ≡ true × (p.0 ≡ i)) ⊎ ((p.0 == i) ≡ false × (p.0 ≢ i)) → IsAmong p.0 ms ⊎ (c p.0 ≡ o.zero) → (p.0 ≡ i) ⊎ IsAmong p.0 (without i ms) ⊎ (o.mul (value_at o (loc p.0) r) (c p.0) ≡ o.zero)
      step (inl y) k = inl y.1
      step (inr y) (inl k) = inr (inl (mem-without p.0 i ms k y.1))
      step (inr y) (inr k) = inr (inr (weightless (value_at o (loc p.0) r) _ k))

  left_out : (a f c g q : K) → a ≢ o.zero → c ≢ o.zero → g ≢ o.zero → q ≢ o.zero → o.mul a (o.mul (o.mul (o.mul f c) g) q) ≡ o.zero → f ≡ o.zero
  left_out a f c g q na nc ng nq e = no_zero_divisors l _ f (product_not_zero l _ q (product_not_zero l _ g (product_not_zero l a c na nc) ng) nq) (turned ∙ e)
    where
      turned : o.mul (o.mul (o.mul (o.mul a c) g) q) f ≡ o.mul a (o.mul (o.mul (o.mul f c) g) q)
      turned = simp (ring, l)

  -- each locator of a term that weighs is a root of a register that is no longer than the terms are many
  pub locators_are_roots : (loc c : ℕ → K) (s : ℕ → K) (n len : ℕ) (r : List K) (ms : List ℕ) (e : List (ℕ × K)) (i : ℕ) →
      AllByRecursion (λ (p : ℕ × K). IsAmong p.0 ms ⊎ (c p.0 ≡ o.zero)) e → ((t : ℕ) → t < n → s t ≡ power_sum o loc c e t) → Annihilates o s n len r →
      len + length ms ≤ n → IsAmong i ms → value_of_pattern_at o e i ≢ o.zero → c i ≢ o.zero → AllByRecursion (λ m. loc i ≢ loc m) (without i ms) → value_at o (loc i) r ≡ o.zero
  unfolding power
  locators_are_roots loc c s n len r ms e i h is good room mem value weight apart =
      let c' : ℕ → K = λ m. o.mul (value_at o (loc m) r) (c m) in
      let others : List ℕ = without i ms in
      let fewer : length (map loc others) + 0 < n - len = simp length-map_ (omega (arith, length-without_mem i ms mem)) in
      let sums : (j : ℕ) → j < n - len → power_sum o loc c' e j ≡ o.zero = λ j within.
      sym (act-cong l r s (power_sum o loc c e) j (λ k below. is (j + k) (omega (arith, good.degree))) ∙ act-power_sum r loc c e j) ∙ good.windows j (omega arith) in
      let gone : knocks o (map loc others) (power_sum o loc c' e) 0 ≡ o.zero = knocks-cong l (map loc others) (power_sum o loc c' e) (λ _. o.zero) (n - len) 0 sums fewer ∙ knocks-nothing (map loc others) 0 in
      let left : knocks o (map loc others) (power_sum o loc c' e) 0 ≡ o.mul (value_of_pattern_at o e i) (o.mul (o.mul (c' i) (gap o (loc i) (map loc others))) (power o (loc i) 0)) = isolate l loc c' i others e 0 (covered loc c r e i ms h) in
      left_out (value_of_pattern_at o e i) (value_at o (loc i) r) (c i) (gap o (loc i) (map loc others)) (power o (loc i) 0) value weight (gap_not_zero l loc (loc i) others apart) l.one_not_zero (sym left ∙ gone)

  map_apart : (loc : ℕ → K) (w i : ℕ) (ms : List ℕ) → ((m n : ℕ) → m < w → n < w → m ≢ n → loc m ≢ loc n) → i < w → AllByRecursion (λ m. m < w) ms → IsNotAmong i ms → IsNotAmong (loc i) (map loc ms)
  map_apart loc w i [] differ below all h = tt
  map_apart loc w i (m ∷ ms) differ below all h = (differ i m below all.0 h.0, map_apart loc w i ms differ below all.1 h.1)

  map_once : (loc : ℕ → K) (w : ℕ) (ms : List ℕ) → ((m n : ℕ) → m < w → n < w → m ≢ n → loc m ≢ loc n) → AllByRecursion (λ m. m < w) ms → IsOnce ms → IsOnce (map loc ms)
  map_once loc w [] differ all h = tt
  map_once loc w (m ∷ ms) differ all h = (map_apart loc w m ms differ all.0 all.1 h.0, map_once loc w ms differ all.1 h.1)

  map_roots : (loc : ℕ → K) (r : List K) (ms : List ℕ) → AllByRecursion (λ m. value_at o (loc m) r ≡ o.zero) ms → AllByRecursion (λ x. value_at o x r ≡ o.zero) (map loc ms)
  map_roots loc r [] h = tt
  map_roots loc r (m ∷ ms) h = (h.0, map_roots loc r ms h.1)

  -- a register has no more locations as roots than it is long
  pub location_bound : (loc : ℕ → K) (w len : ℕ) (r : List K) (xs : List ℕ) → ((m n : ℕ) → m < w → n < w → m ≢ n → loc m ≢ loc n) →
      length r ≡ suc len → top_of o r ≡ o.one → AllByRecursion (λ m. m < w) xs → IsOnce xs → AllByRecursion (λ m. value_at o (loc m) r ≡ o.zero) xs → length xs ≤ len
  location_bound loc w len r xs differ size monic below once roots =
      let bound : length (map loc xs) ≤ len = root_bound l len r (map loc xs) size monic (map_once loc w xs differ below once) (map_roots loc r xs roots) in
      omega (arith, length-map_ loc xs)

  apart_of : (loc : ℕ → K) (w i : ℕ) (ms : List ℕ) → ((m n : ℕ) → m < w → n < w → m ≢ n → loc m ≢ loc n) → i < w → AllByRecursion (λ m. (m < w) × (m ≢ i)) ms → AllByRecursion (λ m. loc i ≢ loc m) ms
  apart_of loc w i [] differ below h = tt
  apart_of loc w i (m ∷ ms) differ below h = (differ i m below h.0.0 (λ e. h.0.1 (sym e)), apart_of loc w i ms differ below h.1)

  not_in : (i : ℕ) (ms : List ℕ) → (IsAmong i ms → ⊥) → IsNotAmong i ms
  not_in i [] h = tt
  not_in i (m ∷ ms) h = (λ e. h (inl e), not_in i ms (λ k. h (inr k)))

  -- what is known of the terms: those that weigh stand at ms
  pub record Terms (loc c : ℕ → K) (w n : ℕ) (s : ℕ → K) (ms : List ℕ) (e : List (ℕ × K)) : Type 0 where
    pub differ : (i j : ℕ) → i < w → j < w → i ≢ j → loc i ≢ loc j
    pub below : AllByRecursion (λ m. m < w) ms
    pub once : IsOnce ms
    pub places : AllByRecursion (λ (p : ℕ × K). IsAmong p.0 ms ⊎ (c p.0 ≡ o.zero)) e
    pub values : AllByRecursion (λ m. (value_of_pattern_at o e m ≢ o.zero) × (c m ≢ o.zero)) ms
    pub sums : (t : ℕ) → t < n → s t ≡ power_sum o loc c e t
    pub few : 2 * length ms ≤ n

  pub record Locates (loc : ℕ → K) (w len : ℕ) (ms : List ℕ) (r : List K) : Type 0 where
    pub short : len ≤ length ms
    pub roots : AllByRecursion (λ m. value_at o (loc m) r ≡ o.zero) ms
    pub no_other : (i : ℕ) → i < w → value_at o (loc i) r ≡ o.zero → IsAmong i ms
    pub bound : (xs : List ℕ) → AllByRecursion (λ m. m < w) xs → IsOnce xs → AllByRecursion (λ m. value_at o (loc m) r ≡ o.zero) xs → length xs ≤ length ms

  -- a shortest register for the sums has the locators, and no others, as roots
  pub locates : (loc c : ℕ → K) (w n len : ℕ) (s : ℕ → K) (ms : List ℕ) (e : List (ℕ × K)) (r : List K) → Terms loc c w n s ms e → Annihilates o s n len r →
      ((m : ℕ) (q : List K) → m ≤ n → Annihilates o s n m q → len ≤ m) → Locates loc w len ms r
  locates loc c w n len s ms e r h good best = record {
    short = short;
    roots = every ms (λ m k. k) h.values h.below;
    no_other = λ i below root. elim (mem_or_not i ms) [ inl k ↦ k | inr k ↦ absurd (too_many i below root k) ];
    bound = λ xs below once roots. bounded xs below once roots;
  }
    where
      short : len ≤ length ms
      short = best (length ms) (roots_poly o (map loc ms)) (omega (arith, h.few)) (product_generates loc c s n ms e h.places h.sums)

      every : (xs : List ℕ) → ((m : ℕ) → IsAmong m xs → IsAmong m ms) → AllByRecursion (λ m. (value_of_pattern_at o e m ≢ o.zero) × (c m ≢ o.zero)) xs → AllByRecursion (λ m. m < w) xs → AllByRecursion (λ m. value_at o (loc m) r ≡ o.zero) xs
      every [] within values below = tt
      every (m ∷ xs) within values below = (
        locators_are_roots loc c s n len r ms e m h.places h.sums good (omega (arith, short, h.few)) (within m (inl refl)) values.0.0 values.0.1
            (apart_of loc w m (without m ms) h.differ below.0 (All-without (λ k. k < w) m ms h.below)),
        every xs (λ k mem. within k (inr mem)) values.1 below.1,
      )

      bounded : (xs : List ℕ) → AllByRecursion (λ m. m < w) xs → IsOnce xs → AllByRecursion (λ m. value_at o (loc m) r ≡ o.zero) xs → length xs ≤ length ms
      bounded xs below once roots = let most : length xs ≤ len = location_bound loc w len r xs h.differ good.degree good.monic below once roots in omega (arith, short)

      too_many : (i : ℕ) → i < w → value_at o (loc i) r ≡ o.zero → (IsAmong i ms → ⊥) → ⊥
      too_many i below root new =
          let more : length (i ∷ ms) ≤ length ms = bounded (i ∷ ms) (below, h.below) (not_in i ms new, h.once) (root, every ms (λ m k. k) h.values h.below) in
          omega arith
