-- Frames are added one after another.
use Rattle.std.proofs.Common.{◌≡◌, ◌∙◌, ◌+◌, ◌||◌, ℕ, Bool, true, false, cond, List, [], ◌∷◌, ◌++◌, map, append-nil, refl, sym, ap, arith}
use Rattle.std.specs.List.{filter, fold, flat_map, list_any, range_with_len}
use Rattle.std.specs.Cmp.Lexicographic.{pointwise}
use Rattle.std.specs.Prelude.{nat_eq}
use Rattle.std.proofs.lemmas.List.{map-append}
use Rattle.std.proofs.lemmas.List.Concat.{flat_map-append}
use Rattle.std.proofs.lemmas.List.Elements.{filter-append}
use Rattle.std.proofs.lemmas.List.FromFn.{map-range_with_len_more}
use Rattle.std.proofs.lemmas.List.Sums.{fold-append}
use Rattle.arrayvec.specs.ArrayVec.{ArrayVec}
use Rattle.indexmap.specs.IndexSet.{insert_key}
use Rattle.bech32_typed.proofs.Counted.{filter-more}
use Rattle.bech32_typed.specs.Frames.{deeper, is_frame, slipped, with_frames, with_text}

-- what is added in two parts
pub with_frames-append : (before xs ys : List (List ℕ)) → with_frames before (xs ++ ys) ≡ with_frames (with_frames before xs) ys
with_frames-append before xs ys =
    ap (fold with_text before) (filter-append is_frame xs ys) ∙ fold-append with_text before (filter is_frame xs) (filter is_frame ys)

-- one more of those that a function makes of the numbers from 0
pub one_more : (before : List (List ℕ)) (f : ℕ → List ℕ) (i : ℕ) → with_frames before (map f (range_with_len 0 (i + 1))) ≡ with_frames (with_frames before (map f (range_with_len 0 i))) (f i ∷ [])
one_more before f i = ap (with_frames before) (map-range_with_len_more f 0 i i (omega arith)) ∙ with_frames-append before (map f (range_with_len 0 i)) (f i ∷ [])

-- the items of the keys of a set
among : (frame : ArrayVec ℕ) (keys : List (ArrayVec ℕ)) → list_any (λ k. pointwise nat_eq frame.items k.items) keys ≡ list_any (pointwise nat_eq frame.items) (map (λ f. f.items) keys)
among frame [] = refl
among frame (k ∷ keys) = ap (λ b. pointwise nat_eq frame.items k.items || b) (among frame keys)

-- a key that is inserted is a text that is added
pub inserted : (frame : ArrayVec ℕ) (keys : List (ArrayVec ℕ)) → map (λ f. f.items) (insert_key (λ v w. pointwise nat_eq v.items w.items) keys frame) ≡ with_text (map (λ f. f.items) keys) frame.items
inserted frame keys = by (list_any (λ k. pointwise nat_eq frame.items k.items) keys) refl
  where
    by : (b : Bool) → list_any (λ k. pointwise nat_eq frame.items k.items) keys ≡ b
        → map (λ f. f.items) (cond b keys (keys ++ frame ∷ [])) ≡ with_text (map (λ f. f.items) keys) frame.items
    by true h = ap (λ b. cond b (map (λ f. f.items) keys) (map (λ f. f.items) keys ++ frame.items ∷ [])) (sym h ∙ among frame keys)
    by false h = map-append (λ f. f.items) keys (frame ∷ []) ∙ ap (λ b. cond b (map (λ f. f.items) keys) (map (λ f. f.items) keys ++ frame.items ∷ [])) (sym h ∙ among frame keys)

-- a frame that is added
pub adds : (before : List (List ℕ)) (text : List ℕ) → is_frame text ≡ true → with_frames before (text ∷ []) ≡ with_text before text
adds before text is = ap (λ b. fold with_text before (cond b (text ∷ []) [])) is

-- the same where one more slip is made of each
pub one_deeper : (before : List (List ℕ)) (f : ℕ → List ℕ) (i : ℕ)
    → with_frames before (flat_map slipped (map f (range_with_len 0 (i + 1)))) ≡ with_frames (with_frames before (flat_map slipped (map f (range_with_len 0 i)))) (slipped (f i))
one_deeper before f i =
    ap (λ texts. with_frames before (flat_map slipped texts)) (map-range_with_len_more f 0 i i (omega arith))
    ∙ ap (with_frames before) (flat_map-append slipped (map f (range_with_len 0 i)) (f i ∷ []) ∙ ap (λ texts. flat_map slipped (map f (range_with_len 0 i)) ++ texts) (append-nil (slipped (f i))))
    ∙ with_frames-append before (flat_map slipped (map f (range_with_len 0 i))) (slipped (f i))

-- texts, or what one more slip makes of each, in two parts
pub deeper-append : (d : Bool) (xs ys : List (List ℕ)) → deeper d (xs ++ ys) ≡ deeper d xs ++ deeper d ys
deeper-append false xs ys = refl
deeper-append true xs ys = flat_map-append slipped xs ys

module _ (d : Bool) (before : List (List ℕ)) (f : ℕ → List ℕ) (p : ℕ → Bool) (i : ℕ) where
  -- one more of these is added, or none
  pub one_passes : p i ≡ true → with_frames before (deeper d (map f (filter p (range_with_len 0 (i + 1)))))
      ≡ with_frames (with_frames before (deeper d (map f (filter p (range_with_len 0 i))))) (deeper d (f i ∷ []))
  one_passes h =
      ap (λ k. with_frames before (deeper d (map f k))) (filter-more p i true h)
      ∙ ap (λ k. with_frames before (deeper d k)) (map-append f (filter p (range_with_len 0 i)) (i ∷ []))
      ∙ ap (with_frames before) (deeper-append d (map f (filter p (range_with_len 0 i))) (f i ∷ []))
      ∙ with_frames-append before (deeper d (map f (filter p (range_with_len 0 i)))) (deeper d (f i ∷ []))

  pub none_passes : p i ≡ false → with_frames before (deeper d (map f (filter p (range_with_len 0 (i + 1)))))
      ≡ with_frames before (deeper d (map f (filter p (range_with_len 0 i))))
  none_passes h = ap (λ k. with_frames before (deeper d (map f k))) (filter-more p i false h ∙ append-nil (filter p (range_with_len 0 i)))
