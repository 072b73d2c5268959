-- Long division, from the highest coefficient down.
use Rattle.std.proofs.Common.{◌≡◌, ℕ, zero, suc, ◌+◌, ◌<◌, ◌≤◌, List, [], ◌∷◌, ◌++◌, length, get_or, take, drop, set, ap, sym, subst, ◌∙◌, refl, arith}
use Rattle.bech32_gf.specs.Field.{Ops, IsField}
use Rattle.bech32_poly.specs.Polynomial.{add, scale}
use Rattle.bech32_poly.specs.Remainder.{IsRemainder}
use Rattle.bech32_gf.specs.laws.Ring.{ring}
use Rattle.bech32_poly.proofs.Lists.{same_cons}
use Rattle.bech32_poly.specs.Division.{zeros, remainder_of}
use Rattle.bech32_poly.proofs.Remainder.{remainder_exists}

module _ {F : Type 0} {o : Ops F} (l : IsField o) where
  -- what a division down to the first coefficient has left
  pub divided_all : (low p rest : List F) (i : ℕ) → i ≡ 0 → rest ≡ remainder_of o low (drop i p) → IsRemainder o low p rest
  divided_all low p rest i done is = subst (IsRemainder o low p) (sym (is ∙ ap (λ k. remainder_of o low (drop k p)) done)) (remainder_exists l low p)

  no_change : (a c : F) → o.add a (o.mul c o.zero) ≡ a
  no_change a c = simp (ring, l)

  -- nothing is taken off before the first place
  pub nothing_taken_off : (p : List F) (c : F) (k : ℕ) → k ≤ length p → add o p (scale o c (zeros o k ++ [])) ≡ p
  nothing_taken_off [] c zero h = refl
  nothing_taken_off (a ∷ p) c zero h = refl
  nothing_taken_off [] c (suc k) h = absurd (omega arith)
  nothing_taken_off (a ∷ p) c (suc k) h = same_cons _ _ _ _ (no_change a c) (nothing_taken_off p c k (omega arith))

  place_taken_off : (p b : List F) (c d d' : F) (k i : ℕ) → i < length b → k + i < length p
      → set (add o p (scale o c (zeros o k ++ take i b))) (k + i) (o.add (get_or (add o p (scale o c (zeros o k ++ take i b))) (k + i) d) (o.mul c (get_or b i d')))
      ≡ add o p (scale o c (zeros o k ++ take (suc i) b))
  place_taken_off p [] c d d' k i h j = absurd (omega arith)
  place_taken_off [] (x ∷ b) c d d' k i h j = absurd (omega arith)
  place_taken_off (a ∷ p) (x ∷ b) c d d' (suc k) i h j =
      let e : suc k + i ≡ suc (k + i) = omega arith in
      rw e (ap (λ u. o.add a (o.mul c o.zero) ∷ u) (place_taken_off p (x ∷ b) c d d' k i h (omega arith)))
  place_taken_off (a ∷ []) (x ∷ b) c d d' zero zero h j = refl
  place_taken_off (a ∷ q ∷ p) (x ∷ b) c d d' zero zero h j = refl
  place_taken_off (a ∷ p) (x ∷ b) c d d' zero (suc i) h j =
      let e : zero + suc i ≡ suc (zero + i) = omega arith in
      rw e (ap (λ u. o.add a (o.mul c x) ∷ u) (place_taken_off p b c d d' zero i (omega arith) (omega arith)))

  -- one place more, and the same as a loop writes it
  next_taken_off : (p b : List F) (c d d' : F) (k i : ℕ) → i < length b → k + i < length p
      → set (add o p (scale o c (zeros o k ++ take i b))) (k + i) (o.add (get_or (add o p (scale o c (zeros o k ++ take i b))) (k + i) d) (o.mul c (get_or b i d')))
      ≡ add o p (scale o c (zeros o k ++ take (i + 1) b))
  next_taken_off p b c d d' k i h j = let e : i + 1 ≡ suc i = omega arith in rw e (place_taken_off p b c d d' k i h j)

  pub place_written : (p b rest : List F) (c x y m s : F) (k i : ℕ) → i < length b → k + i < length p
      → rest ≡ add o p (scale o c (zeros o k ++ take i b)) → x ≡ get_or rest (k + i) x → y ≡ get_or b i y → m ≡ o.mul c y → s ≡ o.add x m
      → set rest (k + i) s ≡ add o p (scale o c (zeros o k ++ take (i + 1) b))
  place_written p b rest c x y m s k i h j before read factor product sum =
      ap (λ u. set u (k + i) s) before
      ∙ ap (set (add o p (scale o c (zeros o k ++ take i b))) (k + i))
      (sum ∙ ap (o.add x) (product ∙ ap (o.mul c) factor) ∙ ap (λ u. o.add u (o.mul c (get_or b i y))) (read ∙ ap (λ u. get_or u (k + i) x) before))
      ∙ next_taken_off p b c x y k i h j
