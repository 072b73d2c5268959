-- Lists as loops write them.
use Rattle.std.proofs.Common.{◌≡◌, ℕ, zero, suc, ◌+◌, ◌<◌, List, [], ◌∷◌, length, get_or, take, set, ap, ◌∙◌, refl, arith}
use Rattle.bech32_gf.specs.Field.{Ops}
use Rattle.bech32_poly.specs.RootSearch.{multiplied_each}

module _ {F : Type 0} (o : Ops F) where
  -- before the first place
  pub none_multiplied : (xs : List F) → multiplied_each o xs [] ≡ xs
  none_multiplied [] = refl
  none_multiplied (x ∷ xs) = refl

  place : (xs ys : List F) (d d' : F) (i : ℕ) → i < length ys → i < length xs
      → set (multiplied_each o xs (take i ys)) i (o.mul (get_or (multiplied_each o xs (take i ys)) i d) (get_or ys i d')) ≡ multiplied_each o xs (take (suc i) ys)
  place [] ys d d' i h k = absurd (omega arith)
  place (x ∷ xs) [] d d' i h k = absurd (omega arith)
  place (x ∷ []) (y ∷ ys) d d' zero h k = refl
  place (x ∷ z ∷ xs) (y ∷ ys) d d' zero h k = refl
  place (x ∷ xs) (y ∷ ys) d d' (suc i) h k = ap (λ u. o.mul x y ∷ u) (place xs ys d d' i (omega arith) (omega arith))

  -- one place more
  pub place_multiplied : (xs ys now : List F) (x y m : F) (i : ℕ) → i < length ys → i < length xs
      → now ≡ multiplied_each o xs (take i ys) → x ≡ get_or now i x → y ≡ get_or ys i y → m ≡ o.mul x y
      → set now i m ≡ multiplied_each o xs (take (i + 1) ys)
  place_multiplied xs ys now x y m i h k before read factor product =
      let e : suc i ≡ i + 1 = omega arith in
      ap (λ u. set u i m) before
      ∙ ap (set (multiplied_each o xs (take i ys)) i) (product ∙ ap (o.mul x) factor ∙ ap (λ u. o.mul u (get_or ys i y)) (read ∙ ap (λ u. get_or u i x) before))
      ∙ place xs ys x y i h k
      ∙ ap (λ n. multiplied_each o xs (take n ys)) e
