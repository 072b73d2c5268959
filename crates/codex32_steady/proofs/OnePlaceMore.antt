-- Weights for one place more.
use Rattle.std.proofs.Common.{◌≡◌, ℕ, zero, suc, ◌+◌, ◌<◌, ◌≤◌, List, [], ◌∷◌, ◌++◌, length, map, take, get_or, sym, ap, subst, ◌∙◌, refl, arith}
use Rattle.std.specs.Prelude.{◌≢◌}
use Rattle.std.specs.List.{AllByRecursion}
use Rattle.std.proofs.lemmas.List.{take_more}
use Rattle.bech32_gf.specs.Field.{Ops, IsField, value_at}
use Rattle.bech32_gf.specs.laws.Ring.{ring}
use Rattle.bech32_poly.specs.Distinct.{IsOnce}
use Rattle.bech32_poly.specs.RootSearch.{total_of, multiplied_each}
use Rattle.bech32_poly.proofs.Roots.{quot, factor, length-quot}
use Rattle.bech32_poly.proofs.Zero.{difference, difference_zero}
use Rattle.codex32_steady.specs.shares.Points.{factor_of, values_at, weighted_sum, AreWeights}
use Rattle.codex32_steady.proofs.Values.{weighted_sum-more, values_at-more, length-values_at}

-- the weights of the places `ys`, when a is one more
abbrev pub rescaled : {F : Type 0} → Ops F → F → F → List F → List F → List F
rescaled o x a ys ws = multiplied_each o ws (map (factor_of o x a) ys)

-- the last weight
abbrev pub weight_left : {F : Type 0} → Ops F → List F → F
weight_left o ws = o.add o.one (o.neg (total_of o ws))

-- at a place of a list
pub all_at : {F : Type 0} (P : F → Type 0) (xs : List F) (i : ℕ) (x : F) → AllByRecursion P xs → i < length xs → x ≡ get_or xs i x → P x
all_at P [] i x all within e = absurd (omega arith)
all_at P (y ∷ xs) zero x all within e = subst P (sym e) all.0
all_at P (y ∷ xs) (suc i) x all within e = all_at P xs i x all.1 (omega arith) e

-- what stands before a place is something else
pub once_before : {F : Type 0} (xs : List F) (i : ℕ) (x : F) → IsOnce xs → i < length xs → x ≡ get_or xs i x → AllByRecursion (λ y. y ≢ x) (take i xs)
once_before [] i x once within e = absurd (omega arith)
once_before (y ∷ xs) zero x once within e = tt
once_before (y ∷ xs) (suc i) x once within e = (all_at (λ z. y ≢ z) xs i x once.0 (omega arith) e, once_before xs i x once.1 (omega arith) e)

module _ {F : Type 0} {o : Ops F} (l : IsField o) where
  -- p of x by that of a
  pub split : (a x : F) (p : List F) → value_at o x p ≡ o.add (value_at o a p) (o.mul (o.add x (o.neg a)) (value_at o x (quot o a p)))
  split a x p =
      subst (λ y. value_at o y p ≡ o.add (value_at o a p) (o.mul (o.add x (o.neg a)) (value_at o y (quot o a p)))) (sym (difference l x a)) (factor l a (o.add x (o.neg a)) p)

  inverse_cancels : (w h d i v q : F) → o.mul d i ≡ o.one → o.mul (o.mul w (o.mul h i)) (o.add v (o.mul d q)) ≡ o.add (o.mul (o.mul w (o.mul h i)) v) (o.mul h (o.mul w q))
  inverse_cancels w h d i v q e = normal ∙ ap (λ u. o.add (o.mul (o.mul w (o.mul h i)) v) (o.mul h (o.mul w (o.mul u q)))) e ∙ last
    where
      normal : o.mul (o.mul w (o.mul h i)) (o.add v (o.mul d q)) ≡ o.add (o.mul (o.mul w (o.mul h i)) v) (o.mul h (o.mul w (o.mul (o.mul d i) q)))
      normal = simp (ring, l)

      last : o.add (o.mul (o.mul w (o.mul h i)) v) (o.mul h (o.mul w (o.mul o.one q))) ≡ o.add (o.mul (o.mul w (o.mul h i)) v) (o.mul h (o.mul w q))
      last = simp (ring, l)

  gathered : (c v h m t n : F) → o.add (o.add (o.mul c v) (o.mul h m)) (o.add (o.mul t v) (o.mul h n)) ≡ o.add (o.mul (o.add c t) v) (o.mul h (o.add m n))
  gathered c v h m t n = simp (ring, l)

  nothing : (v h : F) → o.zero ≡ o.add (o.mul o.zero v) (o.mul h o.zero)
  nothing v h = simp (ring, l)

  -- what the rescaled weights give
  pub rescaled_gives : (x a : F) (ys ws p : List F) → length ws ≡ length ys → AllByRecursion (λ y. y ≢ a) ys
      → weighted_sum o (rescaled o x a ys ws) (values_at o p ys)
      ≡ o.add (o.mul (total_of o (rescaled o x a ys ws)) (value_at o a p)) (o.mul (o.add x (o.neg a)) (weighted_sum o ws (values_at o (quot o a p) ys)))
  rescaled_gives x a [] [] p e apart = nothing (value_at o a p) (o.add x (o.neg a))
  rescaled_gives x a [] (w ∷ ws) p e apart = absurd (omega arith)
  rescaled_gives x a (y ∷ ys) [] p e apart = absurd (omega arith)
  rescaled_gives x a (y ∷ ys) (w ∷ ws) p e apart =
      let h : F = o.add x (o.neg a) in
      let d : F = o.add y (o.neg a) in
      ap (λ u. o.add (o.mul (o.mul w (factor_of o x a y)) u) (weighted_sum o (rescaled o x a ys ws) (values_at o p ys))) (split a y p)
      ∙ ap (λ u. o.add u (weighted_sum o (rescaled o x a ys ws) (values_at o p ys))) (inverse_cancels w h d (o.inv d) (value_at o a p) (value_at o y (quot o a p)) (l.mul_inv d (λ z. apart.0 (difference_zero l y a z))))
      ∙ ap (o.add (o.add (o.mul (o.mul w (factor_of o x a y)) (value_at o a p)) (o.mul h (o.mul w (value_at o y (quot o a p)))))) (rescaled_gives x a ys ws p (omega arith) apart.1)
      ∙ gathered (o.mul w (factor_of o x a y)) (value_at o a p) h (o.mul w (value_at o y (quot o a p))) (total_of o (rescaled o x a ys ws)) (weighted_sum o ws (values_at o (quot o a p) ys))

  pub length-rescaled : (x a : F) (ys ws : List F) → length (rescaled o x a ys ws) ≡ length ws
  length-rescaled x a ys [] = refl
  length-rescaled x a [] (w ∷ ws) = refl
  length-rescaled x a (y ∷ ys) (w ∷ ws) = ap suc (length-rescaled x a ys ws)

  length-more : {A : Type 0} (xs : List A) (x : A) → length (xs ++ (x ∷ [])) ≡ suc (length xs)
  length-more [] x = refl
  length-more (y ∷ xs) x = ap suc (length-more xs x)

  whole : (t v h m : F) → o.add (o.add (o.mul t v) (o.mul h m)) (o.mul (o.add o.one (o.neg t)) v) ≡ o.add v (o.mul h m)
  whole t v h m = ap (o.add (o.add (o.mul t v) (o.mul h m))) (taken t v) ∙ swapped (o.mul t v) (o.mul h m) v (o.neg (o.mul t v)) ∙ ap (o.add (o.add v (o.mul h m))) (l.add_neg (o.mul t v)) ∙ l.add_zero (o.add v (o.mul h m))
    where
      taken : (t v : F) → o.mul (o.add o.one (o.neg t)) v ≡ o.add v (o.neg (o.mul t v))
      taken t v = simp (ring, l)

      swapped : (a b c n : F) → o.add (o.add a b) (o.add c n) ≡ o.add (o.add c b) (o.add a n)
      swapped a b c n = simp (ring, l)

  length-quot_le : (a : F) (p : List F) (n : ℕ) → length p ≤ suc n → length (quot o a p) ≤ n
  length-quot_le a [] n h = omega arith
  length-quot_le a (c ∷ p) n h = let e : length (quot o a (c ∷ p)) ≡ length p = length-quot l a c p in omega arith

  -- one place more
  pub weights_more : (x a : F) (ys ws : List F) → AreWeights o ys x ws → AllByRecursion (λ y. y ≢ a) ys
      → AreWeights o (ys ++ (a ∷ [])) x (rescaled o x a ys ws ++ (weight_left o (rescaled o x a ys ws) ∷ []))
  weights_more x a ys ws are apart = record {
    size = length-more _ _ ∙ ap suc (length-rescaled x a ys ws ∙ are.size) ∙ sym (length-more _ _);
    gives = λ p short.
        ap (weighted_sum o (rescaled o x a ys ws ++ (weight_left o (rescaled o x a ys ws) ∷ []))) (values_at-more l p ys a)
        ∙ weighted_sum-more l (rescaled o x a ys ws) (values_at o p ys) _ (value_at o a p) (length-rescaled x a ys ws ∙ are.size ∙ sym (length-values_at l p ys))
        ∙ ap (λ u. o.add u (o.mul (weight_left o (rescaled o x a ys ws)) (value_at o a p))) (rescaled_gives x a ys ws p are.size apart)
        ∙ whole (total_of o (rescaled o x a ys ws)) (value_at o a p) (o.add x (o.neg a)) (weighted_sum o ws (values_at o (quot o a p) ys))
        ∙ ap (λ u. o.add (value_at o a p) (o.mul (o.add x (o.neg a)) u)) (are.gives (quot o a p) (length-quot_le a p (length ys) (subst (λ n. length p ≤ n) (length-more ys a) short)))
        ∙ sym (split a x p);
  }

  no_coefficient : (x : F) (p : List F) → length p ≤ 0 → o.zero ≡ value_at o x p
  no_coefficient x [] h = refl
  no_coefficient x (c ∷ p) h = absurd (omega arith)

  -- of no place
  pub no_weights : (x : F) → AreWeights o [] x []
  no_weights x = record { size = refl; gives = λ p short. no_coefficient x p short }

  -- for the first places
  pub weights_of_first : (x : F) (xs : List F) (n : ℕ) → n ≤ length xs → IsOnce xs → (ws : List F) × AreWeights o (take n xs) x ws
  weights_of_first x xs zero h once = ([], no_weights x)
  weights_of_first x xs (suc n) h once =
      let before : (ws : List F) × AreWeights o (take n xs) x ws = weights_of_first x xs n (omega arith) once in
      let a : F = get_or xs n x in
      let e : n + 1 ≡ suc n = omega arith in
      (_, subst (λ ys. AreWeights o ys x (rescaled o x a (take n xs) before.0 ++ (weight_left o (rescaled o x a (take n xs) before.0) ∷ []))) (sym (take_more xs n x (omega arith)) ∙ ap (λ m. take m xs) e) (weights_more x a (take n xs) before.0 before.1 (once_before xs n a once (omega arith) (same xs n x (omega arith)))))
    where
      same : (xs : List F) (n : ℕ) (d : F) → n < length xs → get_or xs n d ≡ get_or xs n (get_or xs n d)
      same [] n d h = absurd (omega arith)
      same (y ∷ xs) zero d h = refl
      same (y ∷ xs) (suc n) d h = same xs n d (omega arith)

  take_whole : (xs : List F) → take (length xs) xs ≡ xs
  take_whole [] = refl
  take_whole (x ∷ xs) = ap (λ u. x ∷ u) (take_whole xs)

  -- there are weights
  pub weights_exist : (x : F) (xs : List F) → IsOnce xs → (ws : List F) × AreWeights o xs x ws
  weights_exist x xs once = subst (λ ys. (ws : List F) × AreWeights o ys x ws) (take_whole xs) (weights_of_first x xs (length xs) (omega arith) once)
