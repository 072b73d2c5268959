-- Columns and entries of sketches.
use Rattle.std.specs.Prelude.{get_or}
use Rattle.std.specs.List.{Contains}
use Rattle.std.specs.List.Sorted.{IsBinarySearchResult, IsSorted}
use Rattle.std.specs.Result.{MatchResult}
use Rattle.std.specs.Ordering.{nat_cmp}
use Rattle.std.proofs.Common.{◌≡◌, ℕ, zero, suc, ◌+◌, ◌*◌, ◌^◌, ◌<◌, ◌≤◌, List, [], ◌∷◌, ◌++◌, Result, Ok, Err, length, sym, ap, subst, ◌∙◌, refl, arith, length-append}
use Rattle.std.proofs.Math.Decide.{dec_lt}
use Rattle.std.proofs.lemmas.List.{get_or-append-add, get_or_default}
use lib.ListN.{get_or-append}
use Rattle.std.proofs.lemmas.List.Sorted.{IsNonDecreasingBy-from_sort, searched}
use Rattle.bech32_gf.specs.Fe32 as fe32
use Rattle.bech32_gf.specs.declared.gf32.Fe32.{Fe32}
use Rattle.bech32_checksum.specs.Packed.{tabulate}
use Rattle.bech32_near.specs.search.Sketch.{AreColumns, entry_number, five_of, sketch_at}
use Rattle.bech32_near.proofs.SketchSums.{by_five}

-- ---- columns

pub length-tabulate : {A : Type 0} (n : ℕ) (f : ℕ → A) → length (tabulate n f) ≡ n
length-tabulate zero f = refl
length-tabulate (suc n) f = ap suc (length-tabulate n (λ i. f (suc i)))

pub tabulate-push : {A : Type 0} (n : ℕ) (f : ℕ → A) → tabulate (n + 1) f ≡ tabulate n f ++ f n ∷ []
tabulate-push n f = let up : n + 1 ≡ suc n = omega arith in ap (λ k. tabulate k f) up ∙ behind n f
  where
    behind : {A : Type 0} (n : ℕ) (f : ℕ → A) → tabulate (suc n) f ≡ tabulate n f ++ f n ∷ []
    behind zero f = refl
    behind (suc n) f = ap (λ u. f 0 ∷ u) (behind n (λ i. f (suc i)))

get_or-tabulate : (n : ℕ) (f : ℕ → ℕ) (i d : ℕ) → i < n → get_or (tabulate n f) i d ≡ f i
get_or-tabulate zero f i d low = absurd (omega arith)
get_or-tabulate (suc n) f zero d low = refl
get_or-tabulate (suc n) f (suc i) d low = get_or-tabulate n (λ k. f (suc k)) i d (omega arith)

-- this many columns
abbrev pub columns_up_to : (ℕ → ℕ → ℕ) → ℕ → ℕ → List ℕ
columns_up_to f window zero = []
columns_up_to f window (suc n) = columns_up_to f window n ++ tabulate window (f n)

module _ (f : ℕ → ℕ → ℕ) (w : ℕ) where
  length-next : (n : ℕ) → length (columns_up_to f w (suc n)) ≡ length (columns_up_to f w n) + w
  length-next n = length-append (columns_up_to f w n) (tabulate w (f n)) ∙ ap (λ u. length (columns_up_to f w n) + u) (length-tabulate w (f n))

  newest : (n p : ℕ) → p < w → get_or (columns_up_to f w (suc n)) (length (columns_up_to f w n) + p) 0 ≡ f n p
  newest n p low = get_or-append-add (columns_up_to f w n) (tabulate w (f n)) p 0 ∙ get_or-tabulate w (f n) p 0 low

  up : (n i : ℕ) → i < length (columns_up_to f w n) → i < length (columns_up_to f w (suc n))
  up n i low = omega (arith, low, length-next n)

  kept : (n i : ℕ) → i < length (columns_up_to f w n) → get_or (columns_up_to f w (suc n)) i 0 ≡ get_or (columns_up_to f w n) i 0
  kept n i low = get_or-append (columns_up_to f w n) (tabulate w (f n)) 0 i low

  lengths : (length (columns_up_to f w 1) ≡ w) × (length (columns_up_to f w 2) ≡ 2 * w) × (length (columns_up_to f w 3) ≡ 3 * w) × (length (columns_up_to f w 4) ≡ 4 * w) × (length (columns_up_to f w 5) ≡ 5 * w)
  lengths =
      let one : length (columns_up_to f w 1) ≡ w = omega (arith, length-next 0) in
      let two : length (columns_up_to f w 2) ≡ 2 * w = omega (arith, length-next 1, one) in
      let three : length (columns_up_to f w 3) ≡ 3 * w = omega (arith, length-next 2, two) in
      let four : length (columns_up_to f w 4) ≡ 4 * w = omega (arith, length-next 3, three) in
      let five : length (columns_up_to f w 5) ≡ 5 * w = omega (arith, length-next 4, four) in
      (one, two, three, four, five)

  pub long_columns : length (columns_up_to f w 5) ≡ 5 * w
  long_columns = lengths.4

  module _ (p : ℕ) (low : p < w) where
    at_zero : get_or (columns_up_to f w 5) p 0 ≡ f 0 p
    at_zero =
        let l : p < length (columns_up_to f w 1) = omega (arith, low, lengths.0) in
        kept 4 p (up 3 p (up 2 p (up 1 p l))) ∙ kept 3 p (up 2 p (up 1 p l)) ∙ kept 2 p (up 1 p l) ∙ kept 1 p l ∙ get_or-tabulate w (f 0) p 0 low

    at_one : get_or (columns_up_to f w 5) (w + p) 0 ≡ f 1 p
    at_one =
        let l : w + p < length (columns_up_to f w 2) = omega (arith, low, lengths.1) in
        let i : length (columns_up_to f w 1) + p ≡ w + p = omega (arith, lengths.0) in
        kept 4 (w + p) (up 3 (w + p) (up 2 (w + p) l)) ∙ kept 3 (w + p) (up 2 (w + p) l) ∙ kept 2 (w + p) l ∙ ap (λ j. get_or (columns_up_to f w 2) j 0) (sym i) ∙ newest 1 p low

    at_two : get_or (columns_up_to f w 5) (2 * w + p) 0 ≡ f 2 p
    at_two =
        let l : 2 * w + p < length (columns_up_to f w 3) = omega (arith, low, lengths.2) in
        let i : length (columns_up_to f w 2) + p ≡ 2 * w + p = omega (arith, lengths.1) in
        kept 4 (2 * w + p) (up 3 (2 * w + p) l) ∙ kept 3 (2 * w + p) l ∙ ap (λ j. get_or (columns_up_to f w 3) j 0) (sym i) ∙ newest 2 p low

    at_three : get_or (columns_up_to f w 5) (3 * w + p) 0 ≡ f 3 p
    at_three =
        let l : 3 * w + p < length (columns_up_to f w 4) = omega (arith, low, lengths.3) in
        let i : length (columns_up_to f w 3) + p ≡ 3 * w + p = omega (arith, lengths.2) in
        kept 4 (3 * w + p) l ∙ ap (λ j. get_or (columns_up_to f w 4) j 0) (sym i) ∙ newest 3 p low

    at_four : get_or (columns_up_to f w 5) (4 * w + p) 0 ≡ f 4 p
    at_four =
        let i : length (columns_up_to f w 4) + p ≡ 4 * w + p = omega (arith, lengths.3) in
        ap (λ j. get_or (columns_up_to f w 5) j 0) (sym i) ∙ newest 4 p low

    pub each_of_five : (i : ℕ) → i < 5 → get_or (five_of (columns_up_to f w 5) w p) i 0 ≡ f i p
    each_of_five zero l = at_zero
    each_of_five (suc zero) l = at_one
    each_of_five (suc (suc zero)) l = at_two
    each_of_five (suc (suc (suc zero))) l = at_three
    each_of_five (suc (suc (suc (suc zero)))) l = at_four
    each_of_five (suc (suc (suc (suc (suc i))))) l = absurd (omega (arith, l))

pub columns_are : (rows : List (ℕ × ℕ)) (size : ℕ) (g : List Fe32) (w : ℕ) (columns : List ℕ)
    → columns ≡ columns_up_to (λ i location. sketch_at rows size g location (fe32.element (2 ^ i))) w 5 → AreColumns rows size g w columns
columns_are rows size g w columns e = subst (λ (u : List ℕ). AreColumns rows size g w u) (sym e) (record {
  long = long_columns (λ i location. sketch_at rows size g location (fe32.element (2 ^ i))) w;
  keys = λ location low v. by_five rows size g location (λ i. get_or (five_of (columns_up_to (λ i location. sketch_at rows size g location (fe32.element (2 ^ i))) w 5) w location) i 0)
      (each_of_five (λ i location. sketch_at rows size g location (fe32.element (2 ^ i))) w location low) v;
})

-- ---- entries in order

pub in_order : (xs : List ℕ) → IsSorted nat_cmp xs → (i j : ℕ) → i ≤ j → j < length xs → get_or xs i 0 ≤ get_or xs j 0
in_order xs sorted i j le below = IsNonDecreasingBy-from_sort (λ x. x) xs sorted i j 0 le below

-- an entry above the first ones stands behind them
pub behind_first : (xs : List ℕ) (first start number : ℕ) → IsSorted nat_cmp xs → ((k : ℕ) → k < first → get_or xs k 0 ≤ start) → Contains xs number → start < number
    → (first < length xs) × (get_or xs first 0 ≤ number)
behind_first xs first start number sorted low (k, below, is) above =
    let same : get_or xs k 0 ≡ number = get_or_default xs k 0 number below ∙ is in
    elim (dec_lt k first) [
      | yes p ↦ (let less : get_or xs k 0 ≤ start = low k p in absurd (omega (arith, less, same, above)))
      | no p ↦ (omega (arith, p, below), omega (arith, in_order xs sorted first k (omega (arith, p)) below, same))
    ]

-- where the entries before the i-th are below `next`, and the i-th is no lower than `end`, none is between
pub none_between : (xs : List ℕ) (i start next end number : ℕ) → IsSorted nat_cmp xs → ((k : ℕ) → k < i → start < get_or xs k 0 → get_or xs k 0 < next)
    → (i < length xs → end ≤ get_or xs i 0) → Contains xs number → start < number → next ≤ number → number < end → ⊥
none_between xs i start next end number sorted low high (k, below, is) above from before =
    let same : get_or xs k 0 ≡ number = get_or_default xs k 0 number below ∙ is in
    elim (dec_lt k i) [
      | yes p ↦ (let less : get_or xs k 0 < next = low k p (omega (arith, same, above)) in omega (arith, less, same, from))
      | no p ↦ omega (arith, high (omega (arith, p, below)), in_order xs sorted i k (omega (arith, p)) below, same, before)
    ]

-- the entries of a sketch
pub entry_is : (key location value : ℕ) → location < 2 ^ 24 → value < 32 → entry_number key location value ≡ entry_number key 0 0 + (location * 32 + value)
entry_is key location value low small = omega (arith, low, small)

-- where a search for a number ends, the entries before are no higher
pub found_first : (xs : List ℕ) (x : ℕ) (r : Result ℕ ℕ) → IsSorted nat_cmp xs → IsBinarySearchResult (λ y. nat_cmp y x) xs r
    → MatchResult r (λ i. (k : ℕ) → k < i → get_or xs k 0 ≤ x) (λ i. (k : ℕ) → k < i → get_or xs k 0 ≤ x)
found_first xs x r sorted position = weaker r (searched xs x r position (in_order xs sorted))
  where
    weaker : (r : Result ℕ ℕ) → MatchResult r (λ i. (i < length xs) × (get_or xs i 0 ≡ x)) (λ i. (i ≤ length xs) × ((k : ℕ) → k < i → get_or xs k 0 < x) × ((k : ℕ) → i ≤ k → k < length xs → x < get_or xs k 0))
        → MatchResult r (λ i. (k : ℕ) → k < i → get_or xs k 0 ≤ x) (λ i. (k : ℕ) → k < i → get_or xs k 0 ≤ x)
    weaker (Ok i) (below, is) = λ k low. omega (arith, in_order xs sorted k i (omega (arith, low)) below, is)
    weaker (Err i) (within, less, more) = λ k low. let before : get_or xs k 0 < x = less k low in omega (arith, before)
