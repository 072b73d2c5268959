-- The numbers below one that pass a test, in a loop.
use Rattle.std.proofs.Common.{◌≡◌, ◌∙◌, ◌+◌, ℕ, Bool, true, false, cond, List, [], ◌∷◌, ◌++◌, append-nil, append_assoc, map, map-id, refl, sym, ap, arith}
use Rattle.std.specs.List.{filter, range_with_len}
use Rattle.std.proofs.lemmas.List.{map-append}
use Rattle.std.proofs.lemmas.List.Elements.{filter-append}
use Rattle.std.proofs.lemmas.List.FromFn.{map-range_with_len_more}

range_more : (a n : ℕ) → range_with_len a (n + 1) ≡ range_with_len a n ++ (a + n) ∷ []
range_more a n = sym (map-id (range_with_len a (n + 1))) ∙ map-range_with_len_more (λ i. i) a n (a + n) refl ∙ ap (λ l. l ++ (a + n) ∷ []) (map-id (range_with_len a n))

-- one more number
pub filter-more : (p : ℕ → Bool) (i : ℕ) (b : Bool) → p i ≡ b → filter p (range_with_len 0 (i + 1)) ≡ filter p (range_with_len 0 i) ++ cond b (i ∷ []) []
filter-more p i b h =
    let same : 0 + i ≡ i = omega arith in
    ap (filter p) (range_more 0 i ∙ ap (λ k. range_with_len 0 i ++ k ∷ []) same) ∙ filter-append p (range_with_len 0 i) (i ∷ []) ∙ ap (λ c. filter p (range_with_len 0 i) ++ cond c (i ∷ []) []) h

module _ {X : Type 0} (f : ℕ → X) (p : ℕ → Bool) (i : ℕ) (start before : List X) where
  -- what is made of those that pass goes behind a start: of one more
  pub one_counted : p i ≡ true → before ≡ start ++ map f (filter p (range_with_len 0 i)) → before ++ f i ∷ [] ≡ start ++ map f (filter p (range_with_len 0 (i + 1)))
  one_counted h is =
      ap (λ xs. xs ++ f i ∷ []) is ∙ append_assoc start (map f (filter p (range_with_len 0 i))) (f i ∷ [])
      ∙ ap (λ xs. start ++ xs) (sym (map-append f (filter p (range_with_len 0 i)) (i ∷ [])) ∙ ap (map f) (sym (filter-more p i true h)))

  pub none_counted : p i ≡ false → before ≡ start ++ map f (filter p (range_with_len 0 i)) → before ≡ start ++ map f (filter p (range_with_len 0 (i + 1)))
  none_counted h is = is ∙ ap (λ xs. start ++ map f xs) (sym (append-nil (filter p (range_with_len 0 i))) ∙ sym (filter-more p i false h))
