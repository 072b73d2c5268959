-- A ring of items that is written in place.
use Rattle.std.proofs.Common.{◌≡◌, ℕ, zero, suc, ◌+◌, ◌<◌, ◌≤◌, ◌-◌, List, [], ◌∷◌, ◌++◌, length, take, drop, set, get_or, ◌⊎◌, inl, inr, Some, sym, ap, subst, ◌∙◌, refl, arith}
use Rattle.std.proofs.lemmas.List.{length-append, length-take-le, length-drop, length-set, get_or_append_left, get_or-append-add, take-append-drop, append_assoc, append-nil}
use Rattle.bech32_gf.specs.Field.{Ops, IsField}
use Rattle.bech32_gf.specs.laws.Ring.{ring, neg_zero}
use Rattle.bech32_poly.specs.Polynomial.{coefficient}
use Rattle.bech32_poly.specs.Register.{back_sum, item_at, GivesNext, from_place}
use Rattle.bech32_poly.proofs.Sequences.{back_sum-cong, item_at-listed, item_at-follows, item_at-moved}

module _ {A : Type 0} where
  drop_here : (xs : List A) (k : ℕ) (d : A) → k < length xs → drop k xs ≡ get_or xs k d ∷ drop (suc k) xs
  drop_here [] k d h = absurd (omega arith)
  drop_here (x ∷ xs) zero d h = refl
  drop_here (x ∷ xs) (suc k) d h = drop_here xs k d (omega arith)

  drop_set : (xs : List A) (k : ℕ) (y : A) → drop (suc k) (set xs k y) ≡ drop (suc k) xs
  drop_set [] k y = refl
  drop_set (x ∷ xs) zero y = refl
  drop_set (x ∷ xs) (suc k) y = drop_set xs k y

  take_set : (xs : List A) (k : ℕ) (y : A) → k < length xs → take (suc k) (set xs k y) ≡ take k xs ++ (y ∷ [])
  take_set [] k y h = absurd (omega arith)
  take_set (x ∷ xs) zero y h = refl
  take_set (x ∷ xs) (suc k) y h = ap (λ u. x ∷ u) (take_set xs k y (omega arith))

  drop_all : (xs : List A) → drop (length xs) xs ≡ []
  drop_all [] = refl
  drop_all (x ∷ xs) = drop_all xs

  take_whole : (xs : List A) → take (length xs) xs ≡ xs
  take_whole [] = refl
  take_whole (x ∷ xs) = ap (λ u. x ∷ u) (take_whole xs)

  -- behind its last place a ring begins anew
  pub from_place-end : (xs : List A) (k : ℕ) → k ≡ length xs → from_place k xs ≡ from_place 0 xs
  from_place-end xs k e = ap (λ j. drop j xs ++ take j xs) e ∙ ap (λ u. u ++ take (length xs) xs) (drop_all xs) ∙ take_whole xs ∙ sym (append-nil xs)

  pub length-from_place : (k : ℕ) (xs : List A) → k ≤ length xs → length (from_place k xs) ≡ length xs
  length-from_place k xs h = length-append (drop k xs) (take k xs) ∙ omega (arith, length-drop k xs, length-take-le k xs h)

module _ {F : Type 0} {o : Ops F} (l : IsField o) where
  none_first : (x : F) → x ≡ o.add o.zero x
  none_first x = simp (ring, l)

  one_more : (a u v w : F) → w ≡ o.add u v → o.add a w ≡ o.add (o.add a u) v
  one_more a u v w e = rw e (simp (ring, l))

  back_sum-append : (cs ds : List F) (s : ℕ → F) (n : ℕ) → back_sum o (cs ++ ds) s n ≡ o.add (back_sum o cs s n) (back_sum o ds s (n - length cs))
  back_sum-append [] ds s n = let e : n - 0 ≡ n = omega arith in ap (back_sum o ds s) (sym e) ∙ none_first _
  back_sum-append (c ∷ cs) ds s n =
      let e : n - 1 - length cs ≡ n - suc (length cs) = omega arith in
      one_more _ _ _ _ (back_sum-append cs ds s (n - 1) ∙ ap (λ k. o.add (back_sum o cs s (n - 1)) (back_sum o ds s k)) e)

  back_sum-shift : (cs : List F) (s : ℕ → F) (j n : ℕ) → length cs ≤ n → back_sum o cs s (j + n) ≡ back_sum o cs (λ k. s (j + k)) n
  back_sum-shift [] s j n room = refl
  back_sum-shift (c ∷ cs) s j n room =
      let e : j + n - 1 ≡ j + (n - 1) = omega arith in
      ap (λ k. o.add (o.mul c (s k)) (back_sum o cs s k)) e
      ∙ ap (o.add (o.mul c (s (j + (n - 1))))) (back_sum-shift cs s j (n - 1) (omega arith))

  -- the sum over a ring, over its two parts
  two_parts : (cs ring : List F) (start : ℕ) → start ≤ length ring → length ring ≡ length cs
      → o.add (back_sum o (take start cs) (coefficient o (take start ring)) (length (take start ring))) (back_sum o (drop start cs) (coefficient o (drop start ring)) (length (drop start ring)))
      ≡ back_sum o cs (coefficient o (from_place start ring)) (length cs)
  two_parts cs ring start within same =
      ap (λ u. o.add u (back_sum o far (coefficient o older) (length older))) newer_part
      ∙ ap (o.add (back_sum o near (coefficient o whole) (length cs))) older_part
      ∙ sym (back_sum-append near far (coefficient o whole) (length cs))
      ∙ ap (λ u. back_sum o u (coefficient o whole) (length cs)) (take-append-drop start cs)
    where
      near : List F
      near = take start cs

      far : List F
      far = drop start cs

      newer : List F
      newer = take start ring

      older : List F
      older = drop start ring

      whole : List F
      whole = from_place start ring

      near_size : length near ≡ start
      near_size = length-take-le start cs (omega arith)

      newer_size : length newer ≡ start
      newer_size = length-take-le start ring within

      far_size : length far ≡ length cs - start
      far_size = length-drop start cs

      older_size : length older ≡ length ring - start
      older_size = length-drop start ring

      newer_part : back_sum o near (coefficient o newer) (length newer) ≡ back_sum o near (coefficient o whole) (length cs)
      newer_part =
          back_sum-cong o near (coefficient o newer) (λ k. coefficient o whole (length older + k)) (length newer) (omega (arith, near_size, newer_size)) (λ k less. sym (get_or-append-add older newer k o.zero))
          ∙ sym (back_sum-shift near (coefficient o whole) (length older) (length newer) (omega (arith, near_size, newer_size)))
          ∙ ap (back_sum o near (coefficient o whole)) (omega (arith, newer_size, older_size))

      older_part : back_sum o far (coefficient o older) (length older) ≡ back_sum o far (coefficient o whole) (length cs - length near)
      older_part =
          back_sum-cong o far (coefficient o older) (coefficient o whole) (length older) (omega (arith, far_size, older_size)) (λ k less. sym (get_or_append_left older newer o.zero k less))
          ∙ ap (back_sum o far (coefficient o whole)) (omega (arith, near_size, older_size))

  -- the item that comes behind a ring, as it is computed
  pub following_is : (cs ring near far newer older : List F) (start : ℕ) (u v sum r : F)
      → near ≡ take start cs → far ≡ drop start cs → newer ≡ take start ring → older ≡ drop start ring
      → start ≤ length ring → length ring ≡ length cs
      → u ≡ back_sum o near (coefficient o newer) (length newer) → v ≡ back_sum o far (coefficient o older) (length older)
      → sum ≡ o.add u v → r ≡ o.neg sum → r ≡ o.neg (back_sum o cs (coefficient o (from_place start ring)) (length cs))
  following_is cs ring near far newer older start u v sum r e1 e2 e3 e4 within same at_u at_v at_sum at_r =
      at_r ∙ ap o.neg (at_sum ∙ ap (λ w. o.add w v) left ∙ ap (o.add _) right ∙ two_parts cs ring start within same)
    where
      left : u ≡ back_sum o (take start cs) (coefficient o (take start ring)) (length (take start ring))
      left = at_u ∙ ap (λ p. back_sum o p (coefficient o newer) (length newer)) e1 ∙ ap (λ p. back_sum o (take start cs) (coefficient o p) (length p)) e3

      right : v ≡ back_sum o (drop start cs) (coefficient o (drop start ring)) (length (drop start ring))
      right = at_v ∙ ap (λ p. back_sum o p (coefficient o older) (length older)) e2 ∙ ap (λ p. back_sum o (drop start cs) (coefficient o p) (length p)) e4

  -- a ring gives its first item and takes the following one in its place
  pub gives_next : (cs ring : List F) (start : ℕ) (item following : F) → length ring ≡ length cs → start < length ring
      → item ≡ get_or ring start item → following ≡ o.neg (back_sum o cs (coefficient o (from_place start ring)) (length cs))
      → GivesNext o (record { coefficients = cs; coming = from_place start ring }) (Some item)
      (record { coefficients = cs; coming = from_place (suc start) (set ring start following) })
  gives_next cs ring start item following same within read comes = (ap Some first, refl, later)
    where
      rest : List F
      rest = drop (suc start) ring ++ take start ring

      coming : from_place start ring ≡ item ∷ rest
      coming = ap (λ u. u ++ take start ring) (drop_here ring start item within) ∙ ap (λ x. x ∷ rest) (sym read)

      size : length (item ∷ rest) ≡ length cs
      size = ap length (sym coming) ∙ length-from_place start ring (omega arith) ∙ same

      first : item ≡ item_at o cs (from_place start ring) 0
      first = sym (item_at-listed o cs (from_place start ring) 0 (omega (arith, ap length coming)) ∙ ap (λ u. coefficient o u 0) coming)

      moved : from_place (suc start) (set ring start following) ≡ rest ++ (o.neg (back_sum o cs (coefficient o (item ∷ rest)) (length cs)) ∷ [])
      moved =
          ap (λ u. u ++ take (suc start) (set ring start following)) (drop_set ring start following)
          ∙ ap (λ u. drop (suc start) ring ++ u) (take_set ring start following within)
          ∙ sym (append_assoc (drop (suc start) ring) (take start ring) (following ∷ []))
          ∙ ap (λ u. rest ++ (u ∷ [])) (comes ∙ ap (λ u. o.neg (back_sum o cs (coefficient o u) (length cs))) coming)

      later : (n : ℕ) → item_at o cs (from_place (suc start) (set ring start following)) n ≡ item_at o cs (from_place start ring) (n + 1)
      later n =
          ap (λ u. item_at o cs u n) moved
          ∙ item_at-moved o cs rest item (sym size) n
          ∙ ap (λ u. item_at o cs u (suc n)) (sym coming)
          ∙ (let e : suc n ≡ n + 1 = omega arith in ap (item_at o cs (from_place start ring)) e)

  -- the same, where the ring may begin anew
  pub gives_next_at : (cs ring ring' : List F) (start start' : ℕ) (item following : F) → length ring ≡ length cs → start < length ring
      → item ≡ get_or ring start item → following ≡ o.neg (back_sum o cs (coefficient o (from_place start ring)) (length cs))
      → ring' ≡ set ring start following → (start' ≡ suc start) ⊎ ((start' ≡ 0) × (suc start ≡ length ring))
      → GivesNext o (record { coefficients = cs; coming = from_place start ring }) (Some item)
      (record { coefficients = cs; coming = from_place start' ring' })
  gives_next_at cs ring ring' start start' item following same within read comes written place =
      subst (λ u. GivesNext o (record { coefficients = cs; coming = from_place start ring }) (Some item) (record { coefficients = cs; coming = u })) (sym (goes_on place))
      (gives_next cs ring start item following same within read comes)
    where
      goes_on : (start' ≡ suc start) ⊎ ((start' ≡ 0) × (suc start ≡ length ring)) → from_place start' ring' ≡ from_place (suc start) (set ring start following)
      goes_on (inl e) = ap (λ k. from_place k ring') e ∙ ap (from_place (suc start)) written
      goes_on (inr e) =
          ap (λ k. from_place k ring') e.0 ∙ ap (from_place 0) written
          ∙ sym (from_place-end (set ring start following) (suc start) (e.1 ∙ sym (length-set ring start following)))

  nothing_left : (k : ℕ) (xs : List F) → length xs ≡ 0 → from_place k xs ≡ []
  nothing_left zero [] e = refl
  nothing_left (suc k) [] e = refl
  nothing_left k (x ∷ xs) e = absurd (omega arith)

  none_listed : (n : ℕ) → item_at o [] [] n ≡ o.zero
  none_listed n = item_at-follows o [] [] n (omega arith) (omega arith) ∙ neg_zero l

  -- a register without coefficients gives zeros
  pub gives_zero : (cs ring : List F) (start : ℕ) (item : F) → length cs ≡ 0 → length ring ≡ 0 → item ≡ o.zero
      → GivesNext o (record { coefficients = cs; coming = from_place start ring }) (Some item) (record { coefficients = cs; coming = from_place start ring })
  gives_zero (c ∷ cs) ring start item e f is = absurd (omega arith)
  gives_zero [] ring start item e f is = (ap Some (is ∙ sym (zeros_only 0)), refl, λ n. zeros_only n ∙ sym (zeros_only (n + 1)))
    where
      zeros_only : (n : ℕ) → item_at o [] (from_place start ring) n ≡ o.zero
      zeros_only n = ap (λ u. item_at o [] u n) (nothing_left start ring f) ∙ none_listed n
