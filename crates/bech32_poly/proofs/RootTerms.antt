-- The terms of a polynomial at one power of a base after another.
use Rattle.std.proofs.Common.{◌≡◌, ℕ, zero, suc, ◌+◌, ◌-◌, ◌<◌, ◌≤◌, Bool, true, false, cond, List, [], ◌∷◌, ◌++◌, length, map, take, get_or, sym, ap, ◌∙◌, refl, arith}
use Rattle.std.specs.List.{filter, range_with_len}
use Rattle.std.proofs.lemmas.List.{length-map, length-take-le, map-append, take_more}
use Rattle.bech32_gf.specs.Field.{Ops, IsField, power, value_at}
use Rattle.bech32_gf.specs.laws.Ring.{ring, one_mul}
use Rattle.bech32_gf.specs.laws.FieldLaws.{power-add, power-of_product}
use Rattle.bech32_gf.specs.Powers.{powers_of}
use Rattle.bech32_poly.proofs.Lists.{same_cons}
use Rattle.bech32_poly.proofs.Zero.{power-swap}
use Rattle.bech32_poly.specs.RootSearch.{RootSearch, value_after, total_of, multiplied_each, root_exponents, left_of}

-- the terms at x, the first of which has the i-th power
abbrev pub terms_from : {K : Type 0} → Ops K → K → ℕ → List K → List K
terms_from o x i [] = []
terms_from o x i (a ∷ p) = o.mul a (power o x i) ∷ terms_from o x (suc i) p

-- this many powers of b, from the i-th one on
abbrev pub factors_from : {K : Type 0} → Ops K → K → ℕ → ℕ → List K
factors_from o b i zero = []
factors_from o b i (suc n) = power o b i ∷ factors_from o b (suc i) n

-- tests that agree in a range
pub filter-agrees : (P Q : ℕ → Bool) (a n : ℕ) → ((k : ℕ) → a ≤ k → P k ≡ Q k) → filter P (range_with_len a n) ≡ filter Q (range_with_len a n)
filter-agrees P Q a zero h = refl
filter-agrees P Q a (suc n) h =
    ap (λ b. cond b (a ∷ filter P (range_with_len (a + 1) n)) (filter P (range_with_len (a + 1) n))) (h a (omega arith))
    ∙ ap (λ u. cond (Q a) (a ∷ u) u) (filter-agrees P Q (a + 1) n (λ k above. h k (omega arith)))

module _ {K : Type 0} {o : Ops K} (l : IsField o) where
  pub terms_from-more : (x : K) (i : ℕ) (p : List K) (a : K) → terms_from o x i (p ++ (a ∷ [])) ≡ terms_from o x i p ++ (o.mul a (power o x (i + length p)) ∷ [])
  terms_from-more x i [] a = let e : i ≡ i + 0 = omega arith in ap (λ n. o.mul a (power o x n) ∷ []) e
  terms_from-more x i (b ∷ p) a =
      let e : suc i + length p ≡ i + suc (length p) = omega arith in
      ap (λ u. o.mul b (power o x i) ∷ u) (terms_from-more x (suc i) p a ∙ ap (λ n. terms_from o x (suc i) p ++ (o.mul a (power o x n) ∷ [])) e)

  pub factors_from-more : (b : K) (i n : ℕ) → factors_from o b i (suc n) ≡ factors_from o b i n ++ (power o b (i + n) ∷ [])
  factors_from-more b i zero = let e : i ≡ i + 0 = omega arith in ap (λ n. power o b n ∷ []) e
  factors_from-more b i (suc n) =
      let e : suc i + n ≡ i + suc n = omega arith in
      ap (λ u. power o b i ∷ u) (factors_from-more b (suc i) n ∙ ap (λ m. factors_from o b (suc i) n ++ (power o b m ∷ [])) e)

  pub length-terms_from : (x : K) (i : ℕ) (p : List K) → length (terms_from o x i p) ≡ length p
  length-terms_from x i [] = refl
  length-terms_from x i (a ∷ p) = ap suc (length-terms_from x (suc i) p)

  pub length-factors_from : (b : K) (i n : ℕ) → length (factors_from o b i n) ≡ n
  length-factors_from b i zero = refl
  length-factors_from b i (suc n) = ap suc (length-factors_from b (suc i) n)

  each_term : (a xi bik yi y v w : K) → o.mul xi bik ≡ yi → w ≡ o.mul (o.mul y yi) v → o.add (o.mul (o.mul a xi) bik) w ≡ o.mul yi (o.add a (o.mul y v))
  each_term a xi bik yi y v w e f =
      ap (λ u. o.add u w) (l.mul_assoc a xi bik ∙ ap (o.mul a) e) ∙ ap (o.add (o.mul a yi)) f ∙ sorted
    where
      sorted : o.add (o.mul a yi) (o.mul (o.mul y yi) v) ≡ o.mul yi (o.add a (o.mul y v))
      sorted = simp (ring, l)

  no_terms : (y : K) → o.zero ≡ o.mul y o.zero
  no_terms y = simp (ring, l)

  -- after k steps the terms add up to the value at x times the k-th power of the base
  pub value_after-terms : (x b : K) (i k : ℕ) (p : List K) → value_after o (terms_from o x i p) (factors_from o b i (length p)) k ≡ o.mul (power o (o.mul x (power o b k)) i) (value_at o (o.mul x (power o b k)) p)
  unfolding power
  value_after-terms x b i k [] = no_terms _
  value_after-terms x b i k (a ∷ p) =
      let y : K = o.mul x (power o b k) in
      each_term a (power o x i) (power o (power o b i) k) (power o y i) y (value_at o y p) _
      (ap (o.mul (power o x i)) (power-swap l b i k) ∙ sym (power-of_product l x (power o b k) i))
      (value_after-terms x b (suc i) k p)

  -- one step
  pub value_after-step : (ts fs : List K) (k : ℕ) → value_after o (multiplied_each o ts fs) fs k ≡ value_after o ts fs (suc k)
  unfolding power
  value_after-step [] fs k = refl
  value_after-step (t ∷ ts) [] k = refl
  value_after-step (t ∷ ts) (f ∷ fs) k = ap (λ u. o.add u (value_after o (multiplied_each o ts fs) fs k)) (l.mul_assoc t f (power o f k)) ∙ ap (o.add (o.mul t (o.mul f (power o f k)))) (value_after-step ts fs k)

  times_one : (t w : K) → o.add (o.mul t o.one) w ≡ o.add t w
  times_one t w = ap (λ u. o.add u w) (l.mul_one t)

  -- before the first step
  pub value_after-now : (ts fs : List K) → length fs ≡ length ts → value_after o ts fs 0 ≡ total_of o ts
  unfolding power
  value_after-now [] fs e = refl
  value_after-now (t ∷ ts) [] e = absurd (omega arith)
  value_after-now (t ∷ ts) (f ∷ fs) e = times_one t _ ∙ ap (o.add t) (value_after-now ts fs (omega arith))

  -- a step keeps the number of terms
  pub length-multiplied_each : (ts fs : List K) → length (multiplied_each o ts fs) ≡ length ts
  length-multiplied_each [] fs = refl
  length-multiplied_each (t ∷ ts) [] = refl
  length-multiplied_each (t ∷ ts) (f ∷ fs) = ap suc (length-multiplied_each ts fs)

  nothing_times : (x : K) → o.mul o.one x ≡ x
  nothing_times x = one_mul l x

  -- the search that begins with these terms gives the roots of the polynomial
  pub search_is : (same : K → K → Bool) (p : List K) (base : K) (start end : ℕ)
      → left_of o same (record { terms = terms_from o (power o base start) 0 p; factors = factors_from o base 0 (length p); next = start; end = end }) ≡ root_exponents o same p base start end
  unfolding power
  search_is same p base start end = filter-agrees _ _ start (end - start) at
    where
      at : (k : ℕ) → start ≤ k → same (value_after o (terms_from o (power o base start) 0 p) (factors_from o base 0 (length p)) (k - start)) o.zero ≡ same (value_at o (power o base k) p) o.zero
      at k above =
          let e : start + (k - start) ≡ k = omega arith in
          ap (λ v. same v o.zero) (
          value_after-terms (power o base start) base 0 (k - start) p
          ∙ nothing_times _
          ∙ ap (λ y. value_at o y p) (sym (power-add l base start (k - start)) ∙ ap (power o base) e))

  -- what is left before a step and after it
  pub step_gives : (same : K → K → Bool) (ts fs : List K) (next end : ℕ) → next < end
      → left_of o same (record { terms = ts; factors = fs; next = next; end = end })
      ≡ cond (same (value_after o ts fs 0) o.zero)
      (next ∷ left_of o same (record { terms = multiplied_each o ts fs; factors = fs; next = next + 1; end = end }))
      (left_of o same (record { terms = multiplied_each o ts fs; factors = fs; next = next + 1; end = end }))
  step_gives same ts fs next end more =
      ap (λ n. filter test (range_with_len next n)) size
      ∙ ap (λ k. cond (same (value_after o ts fs k) o.zero) (next ∷ filter test (range_with_len (next + 1) (end - (next + 1)))) (filter test (range_with_len (next + 1) (end - (next + 1))))) here
      ∙ ap (λ u. cond (same (value_after o ts fs 0) o.zero) (next ∷ u) u) (filter-agrees test later (next + 1) (end - (next + 1)) agree)
    where
      test : ℕ → Bool
      test k = same (value_after o ts fs (k - next)) o.zero

      later : ℕ → Bool
      later k = same (value_after o (multiplied_each o ts fs) fs (k - (next + 1))) o.zero

      size : end - next ≡ suc (end - (next + 1))
      size = omega arith

      here : next - next ≡ 0
      here = omega arith

      agree : (k : ℕ) → next + 1 ≤ k → test k ≡ later k
      agree k above =
          let e : k - next ≡ suc (k - (next + 1)) = omega arith in
          ap (λ v. same v o.zero) (ap (value_after o ts fs) e ∙ sym (value_after-step ts fs (k - (next + 1))))

  -- a step, of what a search is seen as
  pub stepped : (same : K → K → Bool) (s t : RootSearch K) (found : Bool) → s.next < s.end → found ≡ same (value_after o s.terms s.factors 0) o.zero
      → t.terms ≡ multiplied_each o s.terms s.factors → t.factors ≡ s.factors → t.next ≡ s.next + 1 → t.end ≡ s.end
      → left_of o same s ≡ cond found (s.next ∷ left_of o same t) (left_of o same t)
  stepped same s t found more is e1 e2 e3 e4 =
      step_gives same s.terms s.factors s.next s.end more
      ∙ ap (λ u. cond (same (value_after o s.terms s.factors 0) o.zero) (s.next ∷ u) u) moved
      ∙ ap (λ b. cond b (s.next ∷ left_of o same t) (left_of o same t)) (sym is)
    where
      moved : left_of o same (record { terms = multiplied_each o s.terms s.factors; factors = s.factors; next = s.next + 1; end = s.end }) ≡ left_of o same t
      moved = joined (sym e1) (sym e2) (sym e3) (sym e4)
        where
          joined : {ts ts' fs fs' : List K} {n n' e e' : ℕ} → ts ≡ ts' → fs ≡ fs' → n ≡ n' → e ≡ e'
              → left_of o same (record { terms = ts; factors = fs; next = n; end = e }) ≡ left_of o same (record { terms = ts'; factors = fs'; next = n'; end = e' })
          joined {ts} {ts'} {fs} {fs'} {n} {n'} {e} {e'} p q r u =
              ap (λ x. left_of o same (record { terms = x; factors = fs; next = n; end = e })) p
              ∙ ap (λ x. left_of o same (record { terms = ts'; factors = x; next = n; end = e })) q
              ∙ ap (λ x. left_of o same (record { terms = ts'; factors = fs'; next = x; end = e })) r
              ∙ ap (λ x. left_of o same (record { terms = ts'; factors = fs'; next = n'; end = x })) u

  pub stepped_found : (same : K → K → Bool) (s t : RootSearch K) (found : Bool) → found ≡ true → s.next < s.end → found ≡ same (value_after o s.terms s.factors 0) o.zero
      → t.terms ≡ multiplied_each o s.terms s.factors → t.factors ≡ s.factors → t.next ≡ s.next + 1 → t.end ≡ s.end
      → left_of o same s ≡ s.next ∷ left_of o same t
  stepped_found same s t found yes_found more is e1 e2 e3 e4 =
      stepped same s t found more is e1 e2 e3 e4 ∙ ap (λ b. cond b (s.next ∷ left_of o same t) (left_of o same t)) yes_found

  pub stepped_missed : (same : K → K → Bool) (s t : RootSearch K) (found : Bool) → found ≡ false → s.next < s.end → found ≡ same (value_after o s.terms s.factors 0) o.zero
      → t.terms ≡ multiplied_each o s.terms s.factors → t.factors ≡ s.factors → t.next ≡ s.next + 1 → t.end ≡ s.end
      → left_of o same s ≡ left_of o same t
  stepped_missed same s t found none more is e1 e2 e3 e4 =
      stepped same s t found more is e1 e2 e3 e4 ∙ ap (λ b. cond b (s.next ∷ left_of o same t) (left_of o same t)) none

  -- a search at its end
  pub search_over : (same : K → K → Bool) (s : RootSearch K) → s.end ≤ s.next → left_of o same s ≡ []
  search_over same s h =
      let none : s.end - s.next ≡ 0 = omega arith in
      ap (λ n. filter (λ k. same (value_after o s.terms s.factors (k - s.next)) o.zero) (range_with_len s.next n)) none

  -- one more term, factor and power, as a loop makes them
  pub terms_next : {B : Type 0} (embed : B → K) (xs : List B) (i : ℕ) (x : B) (b pw m e : K) (ts ts' : List K) → i < length xs
      → ts ≡ terms_from o b 0 (map embed (take i xs)) → pw ≡ power o b i → x ≡ get_or xs i x → e ≡ embed x → m ≡ o.mul e pw
      → ts' ≡ ts ++ (m ∷ []) → ts' ≡ terms_from o b 0 (map embed (take (i + 1) xs))
  terms_next embed xs i x b pw m e ts ts' within before at read lifted product pushed =
      let size : length (map embed (take i xs)) ≡ i = length-map (take i xs) embed ∙ length-take-le i xs (omega arith) in
      let place : i ≡ 0 + length (map embed (take i xs)) = omega (arith, size) in
      pushed
      ∙ ap (λ u. u ++ (m ∷ [])) before
      ∙ ap (λ u. terms_from o b 0 (map embed (take i xs)) ++ (u ∷ []))
      (product ∙ ap (λ u. o.mul u pw) (lifted ∙ ap embed read) ∙ ap (o.mul (embed (get_or xs i x))) (at ∙ ap (power o b) place))
      ∙ sym (terms_from-more b 0 (map embed (take i xs)) (embed (get_or xs i x)))
      ∙ ap (terms_from o b 0) (sym (map-append embed (take i xs) (get_or xs i x ∷ [])) ∙ ap (map embed) (sym (take_more xs i x within)))

  pub factors_next : (b f : K) (i : ℕ) (fs fs' : List K) → fs ≡ factors_from o b 0 i → f ≡ power o b i → fs' ≡ fs ++ (f ∷ []) → fs' ≡ factors_from o b 0 (i + 1)
  factors_next b f i fs fs' before at pushed =
      let place : i ≡ 0 + i = omega arith in
      let e : suc i ≡ i + 1 = omega arith in
      pushed ∙ ap (λ u. u ++ (f ∷ [])) before
      ∙ ap (λ u. factors_from o b 0 i ++ (u ∷ [])) (at ∙ ap (power o b) place)
      ∙ sym (factors_from-more b 0 i) ∙ ap (factors_from o b 0) e

  pub power_next : (b pw pw' : K) (i : ℕ) → pw ≡ power o b i → pw' ≡ o.mul pw b → pw' ≡ power o b (i + 1)
  unfolding power
  power_next b pw pw' i at product =
      let e : suc i ≡ i + 1 = omega arith in
      product ∙ l.mul_comm pw b ∙ ap (o.mul b) at ∙ ap (power o b) e

  powers_are_factors : (b : K) (i n : ℕ) → powers_of o b i n ≡ factors_from o b i n
  powers_are_factors b i zero = refl
  powers_are_factors b i (suc n) = let e : i + 1 ≡ suc i = omega arith in ap (λ u. power o b i ∷ u) (ap (λ k. powers_of o b k n) e ∙ powers_are_factors b (suc i) n)

  pub powers-more : (b : K) (n : ℕ) → powers_of o b 0 (n + 1) ≡ powers_of o b 0 n ++ (power o b n ∷ [])
  powers-more b n =
      let e : n + 1 ≡ suc n = omega arith in
      let place : 0 + n ≡ n = omega arith in
      ap (powers_of o b 0) e ∙ powers_are_factors b 0 (suc n) ∙ factors_from-more b 0 n
      ∙ ap (λ u. u ++ (power o b (0 + n) ∷ [])) (sym (powers_are_factors b 0 n)) ∙ ap (λ k. powers_of o b 0 n ++ (power o b k ∷ [])) place

  pub length-powers : (b : K) (n : ℕ) → length (powers_of o b 0 n) ≡ n
  length-powers b n = ap (λ u. length u) (powers_are_factors b 0 n) ∙ length-factors_from b 0 n

  one_of : (i : ℕ) → power o o.one i ≡ o.one
  unfolding power
  one_of zero = refl
  one_of (suc i) = ap (o.mul o.one) (one_of i) ∙ l.mul_one o.one

  terms_of_one : (i : ℕ) (p : List K) → terms_from o o.one i p ≡ p
  terms_of_one i [] = refl
  terms_of_one i (a ∷ p) = same_cons (o.mul a (power o o.one i)) a (terms_from o o.one (suc i) p) p (ap (o.mul a) (one_of i) ∙ l.mul_one a) (terms_of_one (suc i) p)

  first_power : (b : K) → power o b 0 ≡ o.one
  unfolding power
  first_power b = refl

  -- the search over the coefficients themselves, which are the terms at one
  pub search_below : (same : K → K → Bool) (p ts fs : List K) (base : K) (end : ℕ) → ts ≡ p → fs ≡ powers_of o base 0 (length p)
      → left_of o same (record { terms = ts; factors = fs; next = 0; end = end }) ≡ root_exponents o same p base 0 end
  search_below same p ts fs base end e1 e2 =
      ap (λ u. left_of o same (record { terms = u; factors = fs; next = 0; end = end })) (e1 ∙ sym (terms_of_one 0 p) ∙ ap (λ x. terms_from o x 0 p) (sym (first_power base)))
      ∙ ap (λ u. left_of o same (record { terms = terms_from o (power o base 0) 0 p; factors = u; next = 0; end = end })) (e2 ∙ powers_are_factors base 0 (length p))
      ∙ search_is same p base 0 end

  -- the search that a loop has made
  pub search_of : (same : K → K → Bool) (p p' : List K) (base first : K) (start end n : ℕ) (ts fs : List K) → ts ≡ terms_from o first 0 p → fs ≡ factors_from o base 0 n
      → first ≡ power o base start → p ≡ p' → n ≡ length p'
      → left_of o same (record { terms = ts; factors = fs; next = start; end = end }) ≡ root_exponents o same p' base start end
  search_of same p p' base first start end n ts fs e1 e2 e3 e4 e5 =
      ap (λ u. left_of o same (record { terms = u; factors = fs; next = start; end = end })) (e1 ∙ ap (λ b. terms_from o b 0 p) e3 ∙ ap (terms_from o (power o base start) 0) e4)
      ∙ ap (λ u. left_of o same (record { terms = terms_from o (power o base start) 0 p'; factors = u; next = start; end = end })) (e2 ∙ ap (factors_from o base 0) e5)
      ∙ search_is same p' base start end
