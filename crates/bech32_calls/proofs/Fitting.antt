-- As many as fit.
use Rattle.std.specs.Prelude.{map, flat_map}
use Rattle.std.proofs.Common.{◌≡◌, ◌≢◌, ◌<◌, ◌≤◌, ◌+◌, ◌⊎◌, ℕ, zero, suc, nat_eq, true, false, List, [], ◌∷◌, length, length-append, take, min, inl, inr, ap, subst, sym, ◌∙◌, arith}
use Rattle.std.proofs.Math.Decide.{dec_lt}
use Rattle.std.proofs.lemmas.Bool.{eq-eqb, eqb-true}
use Rattle.std.proofs.lemmas.List.{length-map, length-take-le, take-map, take-take}
use Rattle.std.proofs.lemmas.List.Folds.{flat_map-map}
use Rattle.std.proofs.lemmas.Simd.{map-map}
use Rattle.bech32_calls.specs.Fitting.{FirstFit, IsMost, PutsRows, RowsFit}
use Rattle.bech32_calls.proofs.Puts.{put-same}

-- whether this many are all
pub are_all : (n all : ℕ) → nat_eq n all ≡ true → n ≡ all
are_all n all h = eqb-true n all h

are_others : (n all : ℕ) → nat_eq n all ≡ false → n ≢ all
are_others n all h same = absurd (let t = eq-eqb n all same in cc)

pub are_few : (n all : ℕ) → n ≤ all → nat_eq n all ≡ false → n < all
are_few n all within h = omega (arith, within, are_others n all h)

-- the same of what fits as well
pub most_as : (P Q : ℕ → Type 0) (all all' n : ℕ) → all ≡ all' → ((k : ℕ) → P k → Q k) → ((k : ℕ) → Q k → P k) → IsMost P all n → IsMost Q all' n
most_as P Q all all' n same there back h = record {
  within = omega (arith, same, h.within);
  fits = there n h.fits;
  full = λ less next. h.full (omega (arith, same, less)) (back (n + 1) next);
}

module _ {A B : Type 0} (f : A → B) (g : B → List ℕ) (items : List A) where
  -- the first of what items are made to, one behind another
  pub joined_first : (n : ℕ) → flat_map g (take n (map f items)) ≡ flat_map (λ m. g (f m)) (take n items)
  joined_first n = ap (flat_map g) (take-map f n items) ∙ flat_map-map g f (take n items)

  pub first_fit : (room n : ℕ) → FirstFit (λ m. g (f m)) items room n → FirstFit g (map f items) room n
  first_fit room n fits = subst (λ (l : List ℕ). length l ≤ room) (sym (joined_first n)) fits

  pub first_fit_back : (room n : ℕ) → FirstFit g (map f items) room n → FirstFit (λ m. g (f m)) items room n
  first_fit_back room n fits = subst (λ (l : List ℕ). length l ≤ room) (joined_first n) fits

  pub most_mapped : (room n : ℕ) → IsMost (FirstFit (λ m. g (f m)) items room) (length items) n → IsMost (FirstFit g (map f items) room) (length (map f items)) n
  most_mapped room n =
      most_as (FirstFit (λ m. g (f m)) items room) (FirstFit g (map f items) room) (length items) (length (map f items)) n
      (sym (length-map items f)) (first_fit room) (first_fit_back room)

-- ---- rows

-- the first of them are no longer than all
length_first : {A : Type 0} (f : A → List ℕ) (n : ℕ) (items : List A) → length (flat_map f (take n items)) ≤ length (flat_map f items)
length_first f zero items = omega arith
length_first f (suc n) [] = omega arith
length_first f (suc n) (x ∷ xs) = omega (arith, length-append (f x) (flat_map f (take n xs)), length-append (f x) (flat_map f xs), length_first f n xs)

module _ {R : Type 0} (text : R → List ℕ) (rows : List R) (kinds_room places_room texts_room : ℕ) where
  -- the most of those that have room in two buffers are the most of all
  pub most_of_front : (most n : ℕ) → most ≡ min (min (length rows) kinds_room) places_room → IsMost (FirstFit text (take most rows) texts_room) (length (take most rows)) n
      → IsMost (RowsFit text rows kinds_room places_room texts_room) (length rows) n
  most_of_front most n is h =
      let size : length (take most rows) ≡ most = length-take-le most rows (omega (arith, is)) in
      let few : n ≤ most = omega (arith, size, h.within) in
      let front : (k : ℕ) → k ≤ most → flat_map text (take k (take most rows)) ≡ flat_map text (take k rows) = λ k l. ap (flat_map text) (take-take k most rows l) in
      record {
        within = omega (arith, is, few);
        fits = (omega (arith, is, few), omega (arith, is, few), subst (λ (l : List ℕ). length l ≤ texts_room) (front n few) h.fits);
        full = λ less next.
            let more : n + 1 ≤ most = omega (arith, is, less, next.0, next.1) in
            h.full (omega (arith, size, more)) (subst (λ (l : List ℕ). length l ≤ texts_room) (sym (front (n + 1) more)) next.2);
      }

  -- where one more does not fit, all are more than a buffer has room for, or longer than one
  pub rows_lack : (n count : ℕ) → n < length rows → count ≡ length rows → (RowsFit text rows kinds_room places_room texts_room (n + 1) → ⊥)
      → (kinds_room < count) ⊎ ((places_room < count) ⊎ (texts_room < length (flat_map text rows)))
  rows_lack n count less is none = elim (dec_lt kinds_room (n + 1)) [
    | yes k ↦ inl (omega (arith, k, less, is))
    | no k ↦ elim (dec_lt places_room (n + 1)) [
      | yes l ↦ inr (inl (omega (arith, l, less, is)))
      | no l ↦ elim (dec_lt texts_room (length (flat_map text (take (n + 1) rows)))) [
        | yes t ↦ inr (inr (omega (arith, t, length_first text (n + 1) rows)))
        | no t ↦ absurd (none (omega (arith, k), omega (arith, l), omega (arith, t)))
      ]
    ]
  ]

module _ {A B : Type 0} (f : A → B) (kind place : B → ℕ) (text : B → List ℕ) (items : List A) where
  mapped : (k : B → ℕ) (n : ℕ) → map (λ m. k (f m)) (take n items) ≡ map k (take n (map f items))
  mapped k n = sym (ap (map k) (take-map f n items) ∙ map-map k f (take n items))

  size : (n : ℕ) → length (take n items) ≡ length (take n (map f items))
  size n = sym (ap length (take-map f n items) ∙ length-map (take n items) f)

  -- what is put of the first items is put of what they are made to
  pub rows_mapped : (kinds kinds' places places' texts texts' : List ℕ) (n : ℕ)
      → PutsRows (λ m. kind (f m)) (λ m. place (f m)) (λ m. text (f m)) (take n items) kinds kinds' places places' texts texts'
      → PutsRows kind place text (take n (map f items)) kinds kinds' places places' texts texts'
  rows_mapped kinds kinds' places places' texts texts' n h = record {
    kinds_put = put-same (map (λ m. kind (f m)) (take n items)) (map kind (take n (map f items))) kinds kinds' (length (take n items)) (length (take n (map f items)))
        (mapped kind n) (size n) h.kinds_put;
    places_put = put-same (map (λ m. place (f m)) (take n items)) (map place (take n (map f items))) places places' (length (take n items)) (length (take n (map f items)))
        (mapped place n) (size n) h.places_put;
    texts_put = put-same (flat_map (λ m. text (f m)) (take n items)) (flat_map text (take n (map f items))) texts texts'
        (length (flat_map (λ m. text (f m)) (take n items))) (length (flat_map text (take n (map f items))))
        (sym (joined_first f text items n)) (ap length (sym (joined_first f text items n))) h.texts_put;
  }

  -- as many fit
  pub rows_most : (kinds_room places_room texts_room n : ℕ) → IsMost (RowsFit (λ m. text (f m)) items kinds_room places_room texts_room) (length items) n
      → IsMost (RowsFit text (map f items) kinds_room places_room texts_room) (length (map f items)) n
  rows_most kinds_room places_room texts_room n =
      most_as (RowsFit (λ m. text (f m)) items kinds_room places_room texts_room) (RowsFit text (map f items) kinds_room places_room texts_room) (length items) (length (map f items)) n
      (sym (length-map items f))
      (λ k h. (h.0, h.1, first_fit f text items texts_room k h.2)) (λ k h. (h.0, h.1, first_fit_back f text items texts_room k h.2))
