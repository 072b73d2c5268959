-- The coefficients of sums and products.
use Rattle.std.proofs.Common.{◌≡◌, ℕ, zero, suc, ◌+◌, ◌-◌, ◌<◌, ◌≤◌, List, [], ◌∷◌, ◌++◌, length, take, get_or, sym, ap, ◌∙◌, refl, arith}
use Rattle.std.proofs.lemmas.List.{get_or_append_left, get_or-append-add, get_or_past, get_or-take, length-append, length-take-le, take_more}
use Rattle.std.proofs.Math.Decide.{dec_lt}
use Rattle.bech32_gf.specs.Field.{Ops, IsField}
use Rattle.bech32_gf.specs.laws.Ring.{ring}
use Rattle.bech32_poly.specs.Polynomial.{coefficient, IsSamePolynomial, add, scale, multiply}

-- the sum of the products of coefficients whose places add up to n
abbrev pub convolved : {F : Type 0} → Ops F → List F → List F → ℕ → F
convolved o [] q n = o.zero
convolved o (a ∷ p) q zero = o.mul a (coefficient o q zero)
convolved o (a ∷ p) q (suc n) = o.add (o.mul a (coefficient o q (suc n))) (convolved o p q n)

module _ {F : Type 0} {o : Ops F} (l : IsField o) where
  none_first : (x : F) → x ≡ o.add o.zero x
  none_first x = simp (ring, l)

  none_last : (x : F) → x ≡ o.add x o.zero
  none_last x = simp (ring, l)

  pub coefficient-add : (p q : List F) (i : ℕ) → coefficient o (add o p q) i ≡ o.add (coefficient o p i) (coefficient o q i)
  coefficient-add [] q i = none_first _
  coefficient-add (a ∷ p) [] i = none_last _
  coefficient-add (a ∷ p) (b ∷ q) zero = refl
  coefficient-add (a ∷ p) (b ∷ q) (suc i) = coefficient-add p q i

  times_none : (c : F) → o.zero ≡ o.mul c o.zero
  times_none c = simp (ring, l)

  pub coefficient-scale : (c : F) (p : List F) (i : ℕ) → coefficient o (scale o c p) i ≡ o.mul c (coefficient o p i)
  coefficient-scale c [] i = times_none c
  coefficient-scale c (a ∷ p) zero = refl
  coefficient-scale c (a ∷ p) (suc i) = coefficient-scale c p i

  pub coefficient-multiply : (p q : List F) (n : ℕ) → coefficient o (multiply o p q) n ≡ convolved o p q n
  coefficient-multiply [] q n = refl
  coefficient-multiply (a ∷ p) q zero =
      coefficient-add (scale o a q) (o.zero ∷ multiply o p q) 0 ∙ sym (none_last _) ∙ coefficient-scale a q 0
  coefficient-multiply (a ∷ p) q (suc n) =
      coefficient-add (scale o a q) (o.zero ∷ multiply o p q) (suc n)
      ∙ ap (λ u. o.add u (coefficient o (multiply o p q) n)) (coefficient-scale a q (suc n))
      ∙ ap (o.add (o.mul a (coefficient o q (suc n)))) (coefficient-multiply p q n)

  one_more : (a u v w : F) → w ≡ o.add u v → o.add a w ≡ o.add (o.add a u) v
  one_more a u v w e = rw e (simp (ring, l))

  -- one coefficient more, which counts
  pub convolved-more : (p q : List F) (a : F) (n : ℕ) → length p ≤ n → convolved o (p ++ (a ∷ [])) q n ≡ o.add (convolved o p q n) (o.mul a (coefficient o q (n - length p)))
  convolved-more [] q a zero h = none_first _
  convolved-more [] q a (suc n) h =
      let e : suc n ≡ suc n - 0 = omega arith in
      sym (none_last (o.mul a (coefficient o q (suc n)))) ∙ none_first (o.mul a (coefficient o q (suc n)))
      ∙ ap (λ k. o.add o.zero (o.mul a (coefficient o q k))) e
  convolved-more (b ∷ p) q a zero h = absurd (omega arith)
  convolved-more (b ∷ p) q a (suc n) h =
      let e : n - length p ≡ suc n - suc (length p) = omega arith in
      one_more _ _ _ _ (convolved-more p q a n (omega arith) ∙ ap (λ k. o.add (convolved o p q n) (o.mul a (coefficient o q k))) e)

  -- one coefficient more, which stands too high
  pub convolved-same : (p q : List F) (a : F) (n : ℕ) → n < length p → convolved o (p ++ (a ∷ [])) q n ≡ convolved o p q n
  convolved-same [] q a n h = absurd (omega arith)
  convolved-same (b ∷ p) q a zero h = refl
  convolved-same (b ∷ p) q a (suc n) h = ap (o.add (o.mul b (coefficient o q (suc n)))) (convolved-same p q a n (omega arith))

  -- the same as a loop adds up
  pub convolved_next : (p q : List F) (i n : ℕ) (sum x y m sum' : F) → i < length p → i ≤ n → sum ≡ convolved o (take i p) q n → x ≡ get_or p i x → y ≡ coefficient o q (n - i)
      → m ≡ o.mul x y → sum' ≡ o.add sum m → sum' ≡ convolved o (take (i + 1) p) q n
  convolved_next p q i n sum x y m sum' within reached before read at product added =
      let size : length (take i p) ≡ i = length-take-le i p (omega arith) in
      let place : n - i ≡ n - length (take i p) = omega (arith, size) in
      added ∙ ap (λ u. o.add u m) before
      ∙ ap (o.add (convolved o (take i p) q n)) (product ∙ ap (λ u. o.mul u y) read ∙ ap (o.mul (get_or p i x)) (at ∙ ap (coefficient o q) place))
      ∙ sym (convolved-more (take i p) q (get_or p i x) n (omega (arith, size)))
      ∙ ap (λ u. convolved o u q n) (sym (take_more p i x within))

  pub convolved_past : (p q : List F) (i n : ℕ) (sum : F) → i < length p → n < i → sum ≡ convolved o (take i p) q n → sum ≡ convolved o (take (i + 1) p) q n
  convolved_past p q i n sum within past before =
      let size : length (take i p) ≡ i = length-take-le i p (omega arith) in
      before ∙ sym (convolved-same (take i p) q (get_or p i sum) n (omega (arith, size))) ∙ ap (λ u. convolved o u q n) (sym (take_more p i sum within))

  nothing : (a c w : F) → c ≡ o.zero → w ≡ o.zero → o.add (o.mul a c) w ≡ o.zero
  nothing a c w e f = rw (e, f) (simp (ring, l))

  -- behind the last product
  pub convolved-far : (p q : List F) (n : ℕ) → length p + length q ≤ suc n → convolved o p q n ≡ o.zero
  convolved-far [] q n h = refl
  convolved-far (a ∷ p) q zero h = ap (o.mul a) (get_or_past q 0 o.zero (omega arith)) ∙ sym (times_none a)
  convolved-far (a ∷ p) q (suc n) h = nothing a _ _ (get_or_past q (suc n) o.zero (omega arith)) (convolved-far p q n (omega arith))

  pub multiply-far : (p q : List F) (n : ℕ) → length p + length q ≤ suc n → coefficient o (multiply o p q) n ≡ o.zero
  multiply-far p q n h = coefficient-multiply p q n ∙ convolved-far p q n h

-- one coefficient more of a list that begins as another
pub begins_more : {F : Type 0} (o : Ops F) (list m : List F) (next : F) → ((n : ℕ) → n < length list → coefficient o list n ≡ coefficient o m n) → next ≡ coefficient o m (length list)
    → (n : ℕ) → n < length (list ++ (next ∷ [])) → coefficient o (list ++ (next ∷ [])) n ≡ coefficient o m n
begins_more o list m next begins is n within = elim (dec_lt n (length list)) [
  | yes p ↦ get_or_append_left list (next ∷ []) o.zero n p ∙ begins n p
  | no p ↦
      let there : n ≡ length list + 0 = omega (arith, length-append list (next ∷ [])) in
      let here : length list ≡ n = omega arith in
      ap (coefficient o (list ++ (next ∷ []))) there ∙ get_or-append-add list (next ∷ []) 0 o.zero ∙ is ∙ ap (coefficient o m) here
]

module _ {F : Type 0} {o : Ops F} (l : IsField o) where
  -- as many coefficients of the product as it has are the product
  pub whole_product : (list p q : List F) → ((n : ℕ) → n < length list → coefficient o list n ≡ coefficient o (multiply o p q) n)
      → length p + length q ≤ suc (length list) → IsSamePolynomial o list (multiply o p q)
  whole_product list p q begins size n = elim (dec_lt n (length list)) [
    | yes h ↦ begins n h
    | no h ↦ get_or_past list n o.zero (omega arith) ∙ sym (multiply-far l p q n (omega arith))
  ]

  -- cut off
  pub cut_product : (list p q : List F) (k : ℕ) → ((n : ℕ) → n < length list → coefficient o list n ≡ coefficient o (multiply o p q) n)
      → length list ≤ k → (length list < k → length p + length q ≤ length list) → IsSamePolynomial o list (take k (multiply o p q))
  cut_product list p q k begins below size n = elim (dec_lt n (length list)) [
    | yes h ↦ begins n h ∙ sym (get_or-take k (multiply o p q) n o.zero (omega arith))
    | no h ↦ get_or_past list n o.zero (omega arith) ∙ sym (elim (dec_lt n k) [
      | yes small ↦ get_or-take k (multiply o p q) n o.zero small ∙ multiply-far l p q n (let all : length p + length q ≤ length list = size (omega arith) in omega arith)
      | no big ↦ get_or_past (take k (multiply o p q)) n o.zero (omega (arith, length_cut (multiply o p q) k))
    ])
  ]
    where
      length_cut : (xs : List F) (k : ℕ) → length (take k xs) ≤ k
      length_cut [] zero = omega arith
      length_cut [] (suc k) = omega arith
      length_cut (x ∷ xs) zero = omega arith
      length_cut (x ∷ xs) (suc k) = let h : length (take k xs) ≤ k = length_cut xs k in omega arith
