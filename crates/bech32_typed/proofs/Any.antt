-- Tests of what a function makes of the numbers below one, in a loop.
use Rattle.std.proofs.Common.{◌≡◌, ◌<◌, ◌∙◌, ◌+◌, ◌||◌, ℕ, Bool, true, false, List, [], ◌∷◌, drop, map, take, refl, sym, ap, arith}
use Rattle.std.specs.List.{list_any, range_with_len}
use Rattle.std.proofs.lemmas.List.{take-append-drop}
use Rattle.std.proofs.lemmas.List.Folds.{list_any-append}
use Rattle.std.proofs.lemmas.List.FromFn.{map-range_with_len_more, take-map-range_with_len}

or-true : (a b : Bool) → b ≡ true → a || (b || false) ≡ true
or-true true b h = refl
or-true false b h = ap (λ c. c || false) h

module _ {X : Type 0} (p : X → Bool) (f : ℕ → X) (i : ℕ) where
  -- one more number
  any-more : list_any p (map f (range_with_len 0 (i + 1))) ≡ list_any p (map f (range_with_len 0 i)) || (p (f i) || false)
  any-more = ap (list_any p) (map-range_with_len_more f 0 i i (omega arith)) ∙ list_any-append p (map f (range_with_len 0 i)) (f i ∷ [])

  pub none_more : list_any p (map f (range_with_len 0 i)) ≡ false → p (f i) ≡ false → list_any p (map f (range_with_len 0 (i + 1))) ≡ false
  none_more before here = any-more ∙ ap (λ b. b || (p (f i) || false)) before ∙ ap (λ b. b || false) here

  -- one that passes
  pub any_here : (n : ℕ) → i < n → p (f i) ≡ true → list_any p (map f (range_with_len 0 n)) ≡ true
  any_here n within here =
      let xs : List X = map f (range_with_len 0 n) in
      let front : list_any p (take (i + 1) xs) ≡ true = ap (list_any p) (take-map-range_with_len f 0 n (i + 1) (omega (arith, within))) ∙ any-more ∙ or-true (list_any p (map f (range_with_len 0 i))) (p (f i)) here in
      ap (list_any p) (sym (take-append-drop (i + 1) xs)) ∙ list_any-append p (take (i + 1) xs) (drop (i + 1) xs) ∙ ap (λ b. b || list_any p (drop (i + 1) xs)) front
