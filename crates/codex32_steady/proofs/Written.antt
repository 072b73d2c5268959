-- Weights as loops write them.
use Rattle.std.proofs.Common.{◌≡◌, ℕ, zero, suc, ◌+◌, ◌<◌, ◌≤◌, List, [], ◌∷◌, ◌++◌, length, map, take, get_or, set, sym, ap, subst, ◌∙◌, refl, arith}
use Rattle.std.proofs.lemmas.List.{take_more, length-take-le}
use Rattle.std.specs.List.{AllByRecursion}
use Rattle.bech32_gf.specs.Field.{Ops, IsField}
use Rattle.bech32_poly.specs.Distinct.{IsOnce}
use Rattle.bech32_poly.specs.RootSearch.{total_of, multiplied_each}
use Rattle.codex32_steady.specs.shares.Points.{factor_of, AreWeights}
use Rattle.codex32_steady.proofs.OnePlaceMore.{all_at, rescaled, weight_left, weights_more, once_before}

-- an item of a list, and what a map makes of it
pub map_at : {A B : Type 0} (f : A → B) (xs : List A) (i : ℕ) (x : A) (y : B) → i < length xs → x ≡ get_or xs i x → y ≡ f x → y ≡ get_or (map f xs) i y
map_at f [] i x y within e h = absurd (omega arith)
map_at f (z ∷ xs) zero x y within e h = h ∙ ap f e
map_at f (z ∷ xs) (suc i) x y within e h = map_at f xs i x y (omega arith) e h

-- the same of an item that is read with another in its stead
pub map_or : {A B : Type 0} (f : A → B) (xs : List A) (i : ℕ) (y : B) (d : A) → i < length xs → y ≡ f (get_or xs i d) → y ≡ get_or (map f xs) i y
map_or f [] i y d within h = absurd (omega arith)
map_or f (z ∷ xs) zero y d within h = h
map_or f (z ∷ xs) (suc i) y d within h = map_or f xs i y d (omega arith) h

-- what stands before a place that is set, and at it
pub take_set : {A : Type 0} (xs : List A) (i : ℕ) (v : A) → i < length xs → take (suc i) (set xs i v) ≡ take i xs ++ (v ∷ [])
take_set [] i v within = absurd (omega arith)
take_set (x ∷ xs) zero v within = refl
take_set (x ∷ xs) (suc i) v within = ap (λ u. x ∷ u) (take_set xs i v (omega arith))

pub length-written : {A : Type 0} (xs : List A) (i : ℕ) (v : A) → length (set xs i v) ≡ length xs
length-written [] i v = refl
length-written (x ∷ xs) zero v = refl
length-written (x ∷ xs) (suc i) v = ap suc (length-written xs i v)

module _ {F : Type 0} (o : Ops F) where
  pub take_multiplied : (ws fs : List F) (i : ℕ) → length fs ≤ i → take i (multiplied_each o ws fs) ≡ multiplied_each o (take i ws) fs
  take_multiplied [] fs zero h = refl
  take_multiplied [] fs (suc i) h = refl
  take_multiplied (w ∷ ws) [] zero h = refl
  take_multiplied (w ∷ ws) [] (suc i) h = refl
  take_multiplied (w ∷ ws) (f ∷ fs) zero h = absurd (omega arith)
  take_multiplied (w ∷ ws) (f ∷ fs) (suc i) h = ap (λ u. o.mul w f ∷ u) (take_multiplied ws fs i (omega arith))

  pub length-multiplied : (ws fs : List F) → length (multiplied_each o ws fs) ≡ length ws
  length-multiplied [] fs = refl
  length-multiplied (w ∷ ws) [] = refl
  length-multiplied (w ∷ ws) (f ∷ fs) = ap suc (length-multiplied ws fs)

pub length-mapped : {A B : Type 0} (f : A → B) (xs : List A) → length (map f xs) ≡ length xs
length-mapped f [] = refl
length-mapped f (x ∷ xs) = ap suc (length-mapped f xs)

module _ {F : Type 0} {o : Ops F} (l : IsField o) where
  -- one weight more
  pub written : (x a : F) (xs ws ws' : List F) (i : ℕ) (v : F) → length ws ≡ length xs → i < length xs → IsOnce xs → a ≡ get_or xs i a
      → AreWeights o (take i xs) x (take i ws) → ws' ≡ multiplied_each o ws (map (factor_of o x a) (take i xs)) → v ≡ o.add o.one (o.neg (total_of o (take i ws')))
      → AreWeights o (take (i + 1) xs) x (take (i + 1) (set ws' i v))
  written x a xs ws ws' i v size within once here before scaled given =
      let few : length (map (factor_of o x a) (take i xs)) ≤ i = omega (arith, length-mapped (factor_of o x a) (take i xs), length-take-le i xs (omega arith)) in
      let front : take i ws' ≡ rescaled o x a (take i xs) (take i ws) = ap (take i) scaled ∙ take_multiplied o ws _ i few in
      let long : length ws' ≡ length ws = ap (λ u. length u) scaled ∙ length-multiplied o ws _ in
      let e : suc i ≡ i + 1 = omega arith in
      let places : take i xs ++ (a ∷ []) ≡ take (i + 1) xs = ap (λ b. take i xs ++ (b ∷ [])) here ∙ sym (take_more xs i a within) in
      let weights : rescaled o x a (take i xs) (take i ws) ++ (weight_left o (rescaled o x a (take i xs) (take i ws)) ∷ []) ≡ take (i + 1) (set ws' i v) =
      sym (ap (λ u. u ++ (weight_left o u ∷ [])) front)
      ∙ sym (ap (λ b. take i ws' ++ (b ∷ [])) given)
      ∙ sym (take_set ws' i v (omega (arith, long, size))) ∙ ap (λ n. take n (set ws' i v)) e in
      subst (λ ys. AreWeights o ys x (take (i + 1) (set ws' i v))) places
      (subst (λ vs. AreWeights o (take i xs ++ (a ∷ [])) x vs) weights
      (weights_more l x a (take i xs) (take i ws) before (once_before xs i a once within here)))

-- a text is as long as all
pub as_long : {F B : Type 0} (now : B → List F) (texts : List B) (n i : ℕ) (t : B) → i < length texts → AllByRecursion (λ t. length t ≡ n) (map now texts) → t ≡ get_or texts i t → length (now t) ≡ n
as_long now texts n i t within alike read =
    all_at (λ t. length t ≡ n) (map now texts) i (now t) alike (omega (arith, within, length-mapped now texts)) (map_at now texts i t (now t) within read refl)
