-- The remainder of a polynomial is linear, and there is one.
use Rattle.std.proofs.Common.{◌≡◌, ℕ, zero, suc, ◌+◌, List, [], ◌∷◌, ◌++◌, length, sym, ap, ◌∙◌, refl, arith}
use Rattle.std.proofs.lemmas.List.{append-nil}
use Rattle.bech32_gf.specs.Field.{Ops, IsField}
use Rattle.bech32_poly.specs.Polynomial.{IsSamePolynomial, coefficient, add, scale, multiply}
use Rattle.bech32_poly.specs.Remainder.{IsRemainder, monic}
use Rattle.bech32_poly.specs.Division.{zeros, top, push, step, remainder_of}
use Rattle.bech32_gf.specs.laws.Ring.{ring}
use Rattle.bech32_poly.proofs.Lists.{same_cons, length-scale, length-add, length-zeros, coefficient-zeros, add_comm, add_assoc, add_left_comm, scale-add_elements, scale-add, scale-scale, zeros-add, scale-zeros, scale-zero, add-negative}

module _ {F : Type 0} {o : Ops F} (l : IsField o) where
  neg_zero : o.neg o.zero ≡ o.zero
  neg_zero = simp (ring, l)

  zero_add : (a : F) → o.add o.zero a ≡ a
  zero_add a = simp (ring, l)

  pub length-push : (a : F) (r : List F) → length (push a r) ≡ length r
  length-push a [] = refl
  length-push a (b ∷ r) = ap suc (length-push b r)

  pub push-add : (a b : F) (r s : List F) → length r ≡ length s → push (o.add a b) (add o r s) ≡ add o (push a r) (push b s)
  push-add a b [] [] e = refl
  push-add a b [] (d ∷ s) e = absurd (omega arith)
  push-add a b (c ∷ r) [] e = absurd (omega arith)
  push-add a b (c ∷ r) (d ∷ s) e = ap (λ u. o.add a b ∷ u) (push-add c d r s (omega arith))

  pub top-add : (a b : F) (r s : List F) → length r ≡ length s → top (o.add a b) (add o r s) ≡ o.add (top a r) (top b s)
  top-add a b [] [] e = refl
  top-add a b [] (d ∷ s) e = absurd (omega arith)
  top-add a b (c ∷ r) [] e = absurd (omega arith)
  top-add a b (c ∷ r) (d ∷ s) e = top-add c d r s (omega arith)

  pub push-scale : (c a : F) (r : List F) → push (o.mul c a) (scale o c r) ≡ scale o c (push a r)
  push-scale c a [] = refl
  push-scale c a (b ∷ r) = ap (λ u. o.mul c a ∷ u) (push-scale c b r)

  pub top-scale : (c a : F) (r : List F) → top (o.mul c a) (scale o c r) ≡ o.mul c (top a r)
  top-scale c a [] = refl
  top-scale c a (b ∷ r) = top-scale c b r

  pub length-step : (low r : List F) (a : F) → length r ≡ length low → length (step o low r a) ≡ length low
  length-step low r a e = length-add l (push a r) (scale o (o.neg (top a r)) low) (omega (arith, length-push a r, length-scale l (o.neg (top a r)) low)) ∙ length-push a r ∙ e

  pub length-remainder_of : (low p : List F) → length (remainder_of o low p) ≡ length low
  length-remainder_of low [] = length-zeros l (length low)
  length-remainder_of low (a ∷ p) = length-step low (remainder_of o low p) a (length-remainder_of low p)

  neg_sum : (x y : F) → o.neg (o.add x y) ≡ o.add (o.neg x) (o.neg y)
  neg_sum x y = simp (ring, l)

  neg_times : (c x : F) → o.neg (o.mul c x) ≡ o.mul c (o.neg x)
  neg_times c x = simp (ring, l)

  pub step-add : (low r s : List F) (a b : F) → length r ≡ length s → step o low (add o r s) (o.add a b) ≡ add o (step o low r a) (step o low s b)
  step-add low r s a b e =
      ap (λ u. add o u (scale o (o.neg (top (o.add a b) (add o r s))) low)) (push-add a b r s e)
      ∙ ap (λ x. add o (add o (push a r) (push b s)) (scale o x low)) (ap o.neg (top-add a b r s e) ∙ neg_sum (top a r) (top b s))
      ∙ ap (add o (add o (push a r) (push b s))) (scale-add_elements l (o.neg (top a r)) (o.neg (top b s)) low)
      ∙ sorted (push a r) (push b s) (scale o (o.neg (top a r)) low) (scale o (o.neg (top b s)) low)
    where
      sorted : (p q u v : List F) → add o (add o p q) (add o u v) ≡ add o (add o p u) (add o q v)
      sorted p q u v = add_assoc l p q (add o u v) ∙ ap (add o p) (add_left_comm l q u v) ∙ sym (add_assoc l p u (add o q v))

  pub step-scale : (low r : List F) (c a : F) → step o low (scale o c r) (o.mul c a) ≡ scale o c (step o low r a)
  step-scale low r c a =
      ap (λ u. add o u (scale o (o.neg (top (o.mul c a) (scale o c r))) low)) (push-scale c a r)
      ∙ ap (λ x. add o (scale o c (push a r)) (scale o x low)) (ap o.neg (top-scale c a r) ∙ neg_times c (top a r))
      ∙ ap (add o (scale o c (push a r))) (sym (scale-scale l c (o.neg (top a r)) low))
      ∙ sym (scale-add l c (push a r) (scale o (o.neg (top a r)) low))

  -- remainders add up
  pub remainder_of-add : (low p q : List F) → remainder_of o low (add o p q) ≡ add o (remainder_of o low p) (remainder_of o low q)
  remainder_of-add low [] q = sym (zeros-add l (length low) (remainder_of o low q) (length-remainder_of low q))
  remainder_of-add low (a ∷ p) [] = sym (add_comm l (remainder_of o low (a ∷ p)) (zeros o (length low)) ∙ zeros-add l (length low) (remainder_of o low (a ∷ p)) (length-remainder_of low (a ∷ p)))
  remainder_of-add low (a ∷ p) (b ∷ q) = ap (λ u. step o low u (o.add a b)) (remainder_of-add low p q) ∙ step-add low (remainder_of o low p) (remainder_of o low q) a b (length-remainder_of low p ∙ sym (length-remainder_of low q))

  pub remainder_of-scale : (low : List F) (c : F) (p : List F) → remainder_of o low (scale o c p) ≡ scale o c (remainder_of o low p)
  remainder_of-scale low c [] = sym (scale-zeros l c (length low))
  remainder_of-scale low c (a ∷ p) = ap (λ u. step o low u (o.mul c a)) (remainder_of-scale low c p) ∙ step-scale low (remainder_of o low p) c a

  push-zeros : (n : ℕ) → push o.zero (zeros o n) ≡ zeros o n
  push-zeros zero = refl
  push-zeros (suc n) = ap (λ u. o.zero ∷ u) (push-zeros n)

  top-zeros : (n : ℕ) → top o.zero (zeros o n) ≡ o.zero
  top-zeros zero = refl
  top-zeros (suc n) = top-zeros n

  -- where nothing falls out, nothing is taken away
  step_short : (low r : List F) (a : F) → length r ≡ length low → top a r ≡ o.zero → step o low r a ≡ push a r
  step_short low r a e f =
      ap (λ x. add o (push a r) (scale o x low)) (ap o.neg f ∙ neg_zero)
      ∙ ap (add o (push a r)) (scale-zero l low)
      ∙ add_comm l (push a r) (zeros o (length low))
      ∙ zeros-add l (length low) (push a r) (length-push a r ∙ e)

  pub step-zeros : (low : List F) → step o low (zeros o (length low)) o.zero ≡ zeros o (length low)
  step-zeros low = step_short low (zeros o (length low)) o.zero (length-zeros l (length low)) (top-zeros (length low)) ∙ push-zeros (length low)

  remainder_of-nothing : (low p : List F) → IsSamePolynomial o p [] → remainder_of o low p ≡ zeros o (length low)
  remainder_of-nothing low [] h = refl
  remainder_of-nothing low (a ∷ p) h =
      let first : a ≡ o.zero = h 0 in
      ap (λ u. step o low u a) (remainder_of-nothing low p (λ i. h (suc i))) ∙ ap (step o low (zeros o (length low))) first ∙ step-zeros low

  -- the remainder does not see zeros at the high end
  pub remainder_of-same : (low p q : List F) → IsSamePolynomial o p q → remainder_of o low p ≡ remainder_of o low q
  remainder_of-same low [] q h = sym (remainder_of-nothing low q (λ i. sym (h i)))
  remainder_of-same low (a ∷ p) [] h = remainder_of-nothing low (a ∷ p) h
  remainder_of-same low (a ∷ p) (b ∷ q) h =
      let first : a ≡ b = h 0 in
      ap (λ u. step o low u a) (remainder_of-same low p q (λ i. h (suc i))) ∙ ap (step o low (remainder_of o low q)) first

  push-padded : (a : F) (r : List F) (n : ℕ) → push a (r ++ zeros o (suc n)) ≡ a ∷ r ++ zeros o n
  push-padded a [] n = ap (λ u. a ∷ u) (push-zeros n)
  push-padded a (b ∷ r) n = ap (λ u. a ∷ u) (push-padded b r n)

  top-padded : (a : F) (r : List F) (n : ℕ) → top a (r ++ zeros o (suc n)) ≡ o.zero
  top-padded a [] n = top-zeros n
  top-padded a (b ∷ r) n = top-padded b r n

  length-padded : (r : List F) (n : ℕ) → length (r ++ zeros o n) ≡ length r + n
  length-padded [] n = length-zeros l n ∙ omega arith
  length-padded (a ∷ r) n = let e : length (r ++ zeros o n) ≡ length r + n = length-padded r n in omega arith

  -- a short polynomial is its own remainder
  pub remainder_of-short : (low r : List F) (n : ℕ) → length r + n ≡ length low → remainder_of o low r ≡ r ++ zeros o n
  remainder_of-short low [] n e = let same : length low ≡ n = omega arith in ap (zeros o) same
  remainder_of-short low (a ∷ r) n e =
      let more : length r + suc n ≡ length low = omega arith in
      ap (λ u. step o low u a) (remainder_of-short low r (suc n) more)
      ∙ step_short low (r ++ zeros o (suc n)) a (length-padded r (suc n) ∙ more) (top-padded a r n)
      ∙ push-padded a r n

  pub remainder_of-itself : (low r : List F) → length r ≡ length low → remainder_of o low r ≡ r
  remainder_of-itself low r e = remainder_of-short low r 0 (omega arith) ∙ append-nil r

  top-last : (a b : F) (low : List F) → top a (low ++ (b ∷ [])) ≡ b
  top-last a b [] = refl
  top-last a b (c ∷ low) = top-last c b low

  push-last : (a b : F) (low : List F) → push a (low ++ (b ∷ [])) ≡ a ∷ low
  push-last a b [] = refl
  push-last a b (c ∷ low) = ap (λ u. a ∷ u) (push-last c b low)

  length-last : (b : F) (low : List F) → length (low ++ (b ∷ [])) ≡ suc (length low)
  length-last b [] = refl
  length-last b (c ∷ low) = ap suc (length-last b low)

  -- the generator leaves nothing
  pub remainder_of-monic : (low : List F) → remainder_of o low (monic o low) ≡ zeros o (length low)
  remainder_of-monic [] = refl
  remainder_of-monic (c ∷ low) =
      ap (λ u. step o (c ∷ low) u c) (remainder_of-itself (c ∷ low) (low ++ (o.one ∷ [])) (length-last o.one low))
      ∙ ap (λ u. add o u (scale o (o.neg (top c (low ++ (o.one ∷ [])))) (c ∷ low))) (push-last c o.one low)
      ∙ ap (λ x. add o (c ∷ low) (scale o (o.neg x) (c ∷ low))) (top-last c o.one low)
      ∙ add-negative l (c ∷ low)

  pub remainder_of-multiple : (low q : List F) → remainder_of o low (multiply o q (monic o low)) ≡ zeros o (length low)
  remainder_of-multiple low [] = refl
  remainder_of-multiple low (a ∷ q) =
      remainder_of-add low (scale o a (monic o low)) (o.zero ∷ multiply o q (monic o low))
      ∙ ap (λ u. add o u (remainder_of o low (o.zero ∷ multiply o q (monic o low)))) (remainder_of-scale low a (monic o low) ∙ ap (scale o a) (remainder_of-monic low) ∙ scale-zeros l a (length low))
      ∙ zeros-add l (length low) _ (length-remainder_of low (o.zero ∷ multiply o q (monic o low)))
      ∙ ap (λ u. step o low u o.zero) (remainder_of-multiple low q)
      ∙ step-zeros low

  -- there is one remainder
  pub remainder_unique : (low p r : List F) → IsRemainder o low p r → r ≡ remainder_of o low p
  remainder_unique low p r h = sym (
      remainder_of-same low p (add o (multiply o h.quotient (monic o low)) r) h.divides
      ∙ remainder_of-add low (multiply o h.quotient (monic o low)) r
      ∙ ap (λ u. add o u (remainder_of o low r)) (remainder_of-multiple low h.quotient)
      ∙ zeros-add l (length low) (remainder_of o low r) (length-remainder_of low r)
      ∙ remainder_of-itself low r h.short)

  pub quotient_of : List F → List F → List F
  quotient_of low [] = []
  quotient_of low (a ∷ p) = top a (remainder_of o low p) ∷ quotient_of low p

  back : (t c x : F) → o.add (o.mul t c) (o.add x (o.mul (o.neg t) c)) ≡ x
  back t c x =
      ap (o.add (o.mul t c)) (l.add_comm x (o.mul (o.neg t) c))
      ∙ sym (l.add_assoc (o.mul t c) (o.mul (o.neg t) c) x)
      ∙ ap (λ w. o.add w x) both ∙ zero_add x
    where
      both : o.add (o.mul t c) (o.mul (o.neg t) c) ≡ o.zero
      both = simp (ring, l)

  pub put_back : (t : F) (low u : List F) → length u ≡ length low → add o (scale o t (monic o low)) (add o u (scale o (o.neg t) low)) ≡ u ++ (t ∷ [])
  put_back t [] [] e = same_cons _ _ _ _ (l.mul_one t) refl
  put_back t [] (x ∷ u) e = absurd (omega arith)
  put_back t (c ∷ low) [] e = absurd (omega arith)
  put_back t (c ∷ low) (x ∷ u) e = same_cons _ _ _ _ (back t c x) (put_back t low u (omega arith))

  push_top : (a : F) (r : List F) → push a r ++ (top a r ∷ []) ≡ a ∷ r
  push_top a [] = refl
  push_top a (b ∷ r) = ap (λ u. a ∷ u) (push_top b r)

  divided : (low p : List F) → IsSamePolynomial o p (add o (multiply o (quotient_of low p) (monic o low)) (remainder_of o low p))
  unfolding quotient_of
  divided low [] i = sym (coefficient-zeros l (length low) i)
  divided low (a ∷ p) i = place i (divided low p) ∙ ap (λ u. coefficient o u i) (sym whole)
    where
      r : List F
      r = remainder_of o low p

      m : List F
      m = multiply o (quotient_of low p) (monic o low)

      whole : add o (add o (scale o (top a r) (monic o low)) (o.zero ∷ m)) (step o low r a) ≡ o.add o.zero a ∷ add o m r
      whole =
          ap (λ u. add o u (step o low r a)) (add_comm l (scale o (top a r) (monic o low)) (o.zero ∷ m))
          ∙ add_assoc l (o.zero ∷ m) (scale o (top a r) (monic o low)) (step o low r a)
          ∙ ap (add o (o.zero ∷ m)) (put_back (top a r) low (push a r) (length-push a r ∙ length-remainder_of low p) ∙ push_top a r)

      place : (j : ℕ) → IsSamePolynomial o p (add o m r) → coefficient o (a ∷ p) j ≡ coefficient o (o.add o.zero a ∷ add o m r) j
      place zero h = sym (zero_add a)
      place (suc j) h = h j

  pub remainder_exists : (low p : List F) → IsRemainder o low p (remainder_of o low p)
  remainder_exists low p = record { short = length-remainder_of low p; quotient = quotient_of low p; divides = divided low p }
