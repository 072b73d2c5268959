-- What is left of a budget, try after try.
use Rattle.std.proofs.Common.{◌≡◌, ◌<◌, ◌≤◌, ◌∙◌, ◌+◌, ℕ, List, [], ◌∷◌, ◌++◌, Option, None, Some, length, append-nil, drop, get_or, map-id, take, suc, inl, inr, sym, ap, subst, arith}
use Rattle.std.specs.List.{flat_map, range_with_len, sum_by}
use Rattle.std.proofs.Math.Seq.{drop-cons}
use Rattle.std.proofs.lemmas.List.{length-append, take-append-drop, take_more}
use Rattle.std.proofs.lemmas.List.Concat.{flat_map-append}
use Rattle.std.proofs.lemmas.List.FromFn.{get_or-range_with_len, length-range_with_len, take-map-range_with_len}
use Rattle.std.proofs.lemmas.List.Sums.{sum_by-append}
use Rattle.bech32_typed.specs.Tries.{IsTaken, Try, texts_of_try}
use Rattle.bech32_typed.specs.declared.tries.Budget.{Budget}

module _ (budget middle : Budget) (xs ys : List Try) (before : IsTaken budget xs (Some middle)) where
  texts-append : sum_by texts_of_try (xs ++ ys) ≡ sum_by texts_of_try xs + sum_by texts_of_try ys
  texts-append = sum_by-append texts_of_try xs ys

  tries-append : length (xs ++ ys) ≡ length xs + length ys
  tries-append = length-append xs ys

  -- more is tried after that
  pub taken-append : (rest : Option Budget) → IsTaken middle ys rest → IsTaken budget (xs ++ ys) rest
  taken-append (Some rest) (texts, tries) = (omega (arith, before.0, texts, texts-append), omega (arith, before.1, tries, tries-append))
  taken-append None (inl texts) = inl (omega (arith, before.0, texts, texts-append))
  taken-append None (inr tries) = inr (omega (arith, before.1, tries, tries-append))

-- a budget that is not enough for the first is not enough for all
pub taken-fewer : (budget : Budget) (xs ys : List Try) → IsTaken budget xs None → IsTaken budget (xs ++ ys) None
taken-fewer budget xs ys (inl texts) = inl (omega (arith, texts, sum_by-append texts_of_try xs ys))
taken-fewer budget xs ys (inr tries) = inr (omega (arith, tries, length-append xs ys))

-- ---- what a function makes of a list, item after item

module _ {X : Type 0} (f : X → List Try) (budget middle : Budget) where
  -- one more item of a list
  pub taken-more : (xs : List X) (i : ℕ) (d : X) (rest : Budget) → i < length xs → IsTaken budget (flat_map f (take i xs)) (Some middle)
      → IsTaken middle (f (get_or xs i d)) (Some rest) → IsTaken budget (flat_map f (take (i + 1) xs)) (Some rest)
  taken-more xs i d rest inside before here =
      let tries : flat_map f (take (i + 1) xs) ≡ flat_map f (take i xs) ++ f (get_or xs i d) =
      ap (flat_map f) (take_more xs i d inside) ∙ flat_map-append f (take i xs) (get_or xs i d ∷ []) ∙ ap (λ ts. flat_map f (take i xs) ++ ts) (append-nil (f (get_or xs i d))) in
      subst (λ (ts : List Try). IsTaken budget ts (Some rest)) (sym tries) (taken-append budget middle (flat_map f (take i xs)) (f (get_or xs i d)) before (Some rest) here)

  -- an item for which it is not enough
  pub taken-stop : (xs : List X) (i : ℕ) (d : X) → i < length xs → IsTaken budget (flat_map f (take i xs)) (Some middle)
      → IsTaken middle (f (get_or xs i d)) None → IsTaken budget (flat_map f xs) None
  taken-stop xs i d inside before here =
      let behind : List Try = flat_map f (drop (suc i) xs) in
      let tries : flat_map f xs ≡ flat_map f (take i xs) ++ (f (get_or xs i d) ++ behind) =
      ap (flat_map f) (sym (take-append-drop i xs)) ∙ flat_map-append f (take i xs) (drop i xs) ∙ ap (λ ys. flat_map f (take i xs) ++ flat_map f ys) (drop-cons xs i d inside) in
      subst (λ (ts : List Try). IsTaken budget ts None) (sym tries)
      (taken-append budget middle (flat_map f (take i xs)) (f (get_or xs i d) ++ behind) before None (taken-fewer middle (f (get_or xs i d)) behind here))

-- the numbers below one
numbers-take : (i n : ℕ) → i ≤ n → take i (range_with_len 0 n) ≡ range_with_len 0 i
numbers-take i n within = ap (take i) (sym (map-id (range_with_len 0 n))) ∙ take-map-range_with_len (λ k. k) 0 n i within ∙ map-id (range_with_len 0 i)

module _ (f : ℕ → List Try) (budget middle : Budget) (i : ℕ) (before : IsTaken budget (flat_map f (range_with_len 0 i)) (Some middle)) where
  pub taken-next : (rest : Budget) → IsTaken middle (f i) (Some rest) → IsTaken budget (flat_map f (range_with_len 0 (i + 1))) (Some rest)
  taken-next rest here =
      let inside : i < length (range_with_len 0 (i + 1)) = omega (arith, length-range_with_len 0 (i + 1)) in
      let is : get_or (range_with_len 0 (i + 1)) i 0 ≡ i = get_or-range_with_len 0 (i + 1) i 0 (omega arith) ∙ omega arith in
      subst (λ (ns : List ℕ). IsTaken budget (flat_map f ns) (Some rest)) (numbers-take (i + 1) (i + 1) (omega arith))
      (taken-more f budget middle (range_with_len 0 (i + 1)) i 0 rest inside
      (subst (λ (ns : List ℕ). IsTaken budget (flat_map f ns) (Some middle)) (sym (numbers-take i (i + 1) (omega arith))) before)
      (subst (λ (k : ℕ). IsTaken middle (f k) (Some rest)) (sym is) here))

  pub taken-end : (n : ℕ) → i < n → IsTaken middle (f i) None → IsTaken budget (flat_map f (range_with_len 0 n)) None
  taken-end n within here =
      let inside : i < length (range_with_len 0 n) = omega (arith, within, length-range_with_len 0 n) in
      let is : get_or (range_with_len 0 n) i 0 ≡ i = get_or-range_with_len 0 n i 0 within ∙ omega arith in
      taken-stop f budget middle (range_with_len 0 n) i 0 inside
      (subst (λ (ns : List ℕ). IsTaken budget (flat_map f ns) (Some middle)) (sym (numbers-take i n (omega (arith, within)))) before)
      (subst (λ (k : ℕ). IsTaken middle (f k) None) (sym is) here)
