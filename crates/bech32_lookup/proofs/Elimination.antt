-- One step of an elimination keeps the values for which the rows add up to zero.
use Rattle.std.specs.Prelude.{◌≢◌, ◌↔◌, slice_index_or, Option, Some, None, MatchOption}
use Rattle.std.proofs.Common.{◌≡◌, ◌<◌, ◌≤◌, ◌+◌, ◌-◌, ℕ, zero, suc, List, length, slice_set, inl, inr, sym, ap, subst, ◌∙◌, refl, arith}
use Rattle.std.proofs.Math.Decide.{dec_lt}
use Rattle.std.proofs.lemmas.List.{get_or-set_same, get_or-set_other}
use Rattle.bech32_gf.specs.Field.{Ops, IsField}
use Rattle.bech32_gf.specs.laws.Ring.{ring, add_cancel}
use Rattle.bech32_poly.specs.Polynomial.{coefficient}
use Rattle.bech32_lookup.specs.Equations.{AreCancelled, IsEliminated, IsPivot, weighted}

module _ {F : Type 0} {f : Ops F} (fl : IsField f) where
  -- ---- sums of terms

  pub weighted-terms : (value term term' : ℕ → F) (n : ℕ) → ((i : ℕ) → i < n → term i ≡ term' i) → weighted f value term n ≡ weighted f value term' n
  weighted-terms value term term' zero h = refl
  weighted-terms value term term' (suc n) h =
      ap (λ s. f.add s (f.mul (value n) (term n))) (weighted-terms value term term' n (λ i less. h i (omega arith)))
      ∙ ap (λ x. f.add (weighted f value term' n) (f.mul (value n) x)) (h n (omega arith))

  pub weighted-values : (value value' term : ℕ → F) (n : ℕ) → ((i : ℕ) → i < n → value i ≡ value' i) → weighted f value term n ≡ weighted f value' term n
  weighted-values value value' term zero h = refl
  weighted-values value value' term (suc n) h =
      ap (λ s. f.add s (f.mul (value n) (term n))) (weighted-values value value' term n (λ i less. h i (omega arith)))
      ∙ ap (λ x. f.add (weighted f value' term n) (f.mul x (term n))) (h n (omega arith))

  nothing : (x : F) → f.zero ≡ f.add f.zero (f.mul f.zero x)
  nothing x = simp (ring, fl)

  one_more : (s s' v x t a : F) → f.add (f.add s (f.mul s' a)) (f.mul v (f.add x (f.mul t a))) ≡ f.add (f.add s (f.mul v x)) (f.mul (f.add s' (f.mul v t)) a)
  one_more s s' v x t a = simp (ring, fl)

  -- a multiple of one element in each term
  weighted-added : (value term factor : ℕ → F) (a : F) (n : ℕ)
      → weighted f value (λ i. f.add (term i) (f.mul (factor i) a)) n ≡ f.add (weighted f value term n) (f.mul (weighted f value factor n) a)
  weighted-added value term factor a zero = nothing a
  weighted-added value term factor a (suc n) =
      ap (λ s. f.add s (f.mul (value n) (f.add (term n) (f.mul (factor n) a)))) (weighted-added value term factor a n)
      ∙ one_more (weighted f value term n) (weighted f value factor n) (value n) (term n) (factor n) a

  first_zero : (v x : F) → f.add f.zero (f.mul v x) ≡ f.add (f.mul v x) f.zero
  first_zero v x = simp (ring, fl)

  -- the first term apart
  pub weighted-first : (value term : ℕ → F) (n : ℕ)
      → weighted f value term (suc n) ≡ f.add (f.mul (value 0) (term 0)) (weighted f (λ i. value (suc i)) (λ i. term (suc i)) n)
  weighted-first value term zero = first_zero (value 0) (term 0)
  weighted-first value term (suc n) =
      ap (λ s. f.add s (f.mul (value (suc n)) (term (suc n)))) (weighted-first value term n)
      ∙ fl.add_assoc (f.mul (value 0) (term 0)) (weighted f (λ i. value (suc i)) (λ i. term (suc i)) n) (f.mul (value (suc n)) (term (suc n)))

  all_zero : (s v : F) → s ≡ f.add s (f.mul v f.zero)
  all_zero s v = simp (ring, fl)

  weighted-zeros : (value term : ℕ → F) (n : ℕ) → ((i : ℕ) → i < n → term i ≡ f.zero) → weighted f value term n ≡ f.zero
  weighted-zeros value term zero h = refl
  weighted-zeros value term (suc n) h =
      ap (λ x. f.add (weighted f value term n) (f.mul (value n) x)) (h n (omega arith)) ∙ sym (all_zero (weighted f value term n) (value n))
      ∙ weighted-zeros value term n (λ i less. h i (omega arith))

  -- ---- one step

  left_cancel : (s v a : F) → a ≢ f.zero → f.mul s a ≡ f.mul v a → s ≡ v
  left_cancel s v a n e = back s ∙ ap (λ x. f.mul x (f.inv a)) e ∙ sym (back v)
    where
      back : (x : F) → x ≡ f.mul (f.mul x a) (f.inv a)
      back x = sym (fl.mul_assoc x a (f.inv a) ∙ ap (f.mul x) (fl.mul_inv a n) ∙ fl.mul_one x)

  module _ (before after : ℕ → ℕ → F) (last size : ℕ) (factor : ℕ → F) (is : IsEliminated f before after last size factor) where
    -- the sum of the rows after the step
    sum_after : (value : ℕ → F) (place : ℕ) → place < size
        → weighted f value (λ i. after i place) last
        ≡ f.add (weighted f value (λ i. before i place) last) (f.mul (weighted f value factor last) (before last place))
    sum_after value place less =
        weighted-terms value (λ i. after i place) (λ i. f.add (before i place) (f.mul (factor i) (before last place))) last (λ i k. is.added i place k less)
        ∙ weighted-added value (λ i. before i place) factor (before last place) last

    -- with the sum of the others' values times the factors as value of the last row
    pub put_back : (value : ℕ → F) → value last ≡ weighted f value factor last → AreCancelled f after last size value → AreCancelled f before (suc last) size value
    put_back value own h place less =
        ap (λ v. f.add (weighted f value (λ i. before i place) last) (f.mul v (before last place))) own
        ∙ sym (sum_after value place less) ∙ h place less

    value_is : (value : ℕ → F) → AreCancelled f before (suc last) size value → (p : IsPivot f before after last size) → weighted f value factor last ≡ value last
    value_is value h p =
        left_cancel _ _ (before last p.place) p.not_zero
        (add_cancel fl (weighted f value (λ i. before i p.place) last) _ _
        (sym (sum_after value p.place p.within) ∙ weighted-zeros value (λ i. after i p.place) last p.cleared ∙ sym (h p.place p.within)))

    pub taken_out : (value : ℕ → F) → AreCancelled f before (suc last) size value → AreCancelled f after last size value
    taken_out value h place less = sum_after value place less ∙ elim is.cleared [
      | inl p ↦ ap (λ v. f.add (weighted f value (λ i. before i place) last) (f.mul v (before last place))) (value_is value h p) ∙ h place less
      | inr z ↦
          ap (λ x. f.add (weighted f value (λ i. before i place) last) (f.mul (weighted f value factor last) x)) (z place less)
          ∙ sym (all_zero (weighted f value (λ i. before i place) last) (weighted f value factor last))
          ∙ all_zero (weighted f value (λ i. before i place) last) (value last)
          ∙ ap (λ x. f.add (weighted f value (λ i. before i place) last) (f.mul (value last) x)) (sym (z place less))
          ∙ h place less
    ]

  -- ---- what the loops write

  -- in the field an element is its own negative, so that the multiple clears the place of the pivot
  pub cleared_by : ((x : F) → f.neg x ≡ x) → (x a b t y : F) → f.mul a b ≡ f.one → t ≡ f.mul x b → y ≡ f.add x (f.mul t a) → y ≡ f.zero
  cleared_by same x a b t y one is sum =
      sum ∙ ap (λ u. f.add x (f.mul u a)) is
      ∙ ap (f.add x) (fl.mul_assoc x b a ∙ ap (f.mul x) (fl.mul_comm b a ∙ one) ∙ fl.mul_one x ∙ sym (same x)) ∙ fl.add_neg x

  -- one more coefficient in its place
  pub one_more_at : (xs : List F) (h : ℕ → F) (i : ℕ) (x : F) → i < length xs → x ≡ h i → ((n : ℕ) → n < i → coefficient f xs n ≡ h n)
      → (n : ℕ) → n < i + 1 → coefficient f (slice_set xs i x) n ≡ h n
  one_more_at xs h i x room is so_far n below = elim (dec_lt n i) [
    | yes less ↦ get_or-set_other xs i n x f.zero (λ e. omega (arith, e, less)) ∙ so_far n less
    | no more ↦ (let same : n ≡ i = omega arith in ap (coefficient f (slice_set xs i x)) same ∙ get_or-set_same xs i x f.zero room ∙ is ∙ ap h (sym same))
  ]

  none_added : (x t a : F) → a ≡ f.zero → x ≡ f.add x (f.mul t a)
  none_added x t a e = rw e (simp (ring, fl))

  pub nothing_added : (x t a : F) → t ≡ f.zero → x ≡ f.add x (f.mul t a)
  nothing_added x t a e = rw e (simp (ring, fl))

  -- a list with its pivot cleared is the sum up to there
  pub first_places : (list : List F) (row : ℕ → F) (t z : F) (pivot : ℕ) → pivot < length list → z ≡ f.zero → ((n : ℕ) → n < pivot → row n ≡ f.zero)
      → f.add (coefficient f list pivot) (f.mul t (row pivot)) ≡ f.zero
      → (n : ℕ) → n < pivot + 1 → coefficient f (slice_set list pivot z) n ≡ f.add (coefficient f list n) (f.mul t (row n))
  first_places list row t z pivot room none before cleared n below = elim (dec_lt n pivot) [
    | yes less ↦ get_or-set_other list pivot n z f.zero (λ e. omega (arith, e, less)) ∙ none_added (coefficient f list n) t (row n) (before n less)
    | no more ↦ (
        let same : n ≡ pivot = omega arith in
        subst (λ k. coefficient f (slice_set list pivot z) k ≡ f.add (coefficient f list k) (f.mul t (row k))) (sym same)
        (get_or-set_same list pivot z f.zero room ∙ none ∙ sym cleared)
        )
  ]

  -- ---- the values

  pub no_values : (before after : ℕ → ℕ → F) (last size : ℕ) (factor : ℕ → F) → IsEliminated f before after last size factor → 0 < last
      → ((value : ℕ → F) → value 0 ≡ f.one → AreCancelled f after (suc (last - 1)) size value → ⊥)
      → (value : ℕ → F) → value 0 ≡ f.one → AreCancelled f before (suc last) size value → ⊥
  no_values before after last size factor is some none value one h =
      let all : last ≡ suc (last - 1) = omega arith in
      none value one (subst (λ n. AreCancelled f after n size value) all (taken_out before after last size factor is value h))

  pub more_values : (before after : ℕ → ℕ → F) (last size : ℕ) (factors values : List F) (s : F) → IsEliminated f before after last size (coefficient f factors) → 0 < last → last < length values
      → (coefficient f values 0 ≡ f.one) × AreCancelled f after (suc (last - 1)) size (coefficient f values)
      → s ≡ weighted f (coefficient f values) (coefficient f factors) last
      → (coefficient f (slice_set values last s) 0 ≡ f.one) × AreCancelled f before (suc last) size (coefficient f (slice_set values last s))
  more_values before after last size factors values s is some room h sum = (
    get_or-set_other values last 0 s f.zero (λ e. omega (arith, e, some)) ∙ h.0,
    put_back before after last size (coefficient f factors) is (coefficient f (slice_set values last s))
        (get_or-set_same values last s f.zero room ∙ sum ∙ sym (weighted-values (coefficient f (slice_set values last s)) (coefficient f values) (coefficient f factors) last kept))
        (λ place less.
        weighted-values (coefficient f (slice_set values last s)) (coefficient f values) (λ i. after i place) last kept
        ∙ subst (λ n. weighted f (coefficient f values) (λ i. after i place) n ≡ f.zero) all (h.1 place less)),
  )
    where
      all : suc (last - 1) ≡ last
      all = omega arith

      kept : (i : ℕ) → i < last → coefficient f (slice_set values last s) i ≡ coefficient f values i
      kept i less = get_or-set_other values last i s f.zero (λ e. omega (arith, e, less))

  one_row : (x : F) → x ≡ f.add f.zero (f.mul f.one x)
  one_row x = simp (ring, fl)

  pub weighted_one : (value term : ℕ → F) → value 0 ≡ f.one → term 0 ≡ weighted f value term 1
  weighted_one value term one = one_row (term 0) ∙ ap (λ v. f.add f.zero (f.mul v (term 0))) (sym one)

  -- the first row alone
  pub first_row : (table : ℕ → ℕ → F) (size last : ℕ) (value : ℕ → F) → last ≡ 0 → value 0 ≡ f.one
      → AreCancelled f table (suc last) size value ↔ ((place : ℕ) → place < size → table 0 place ≡ f.zero)
  first_row table size last value none one = (
    λ h place less. sym (sum place) ∙ h place less,
    λ h place less. sum place ∙ h place less,
  )
    where
      sum : (place : ℕ) → weighted f value (λ i. table i place) (suc last) ≡ table 0 place
      sum place =
          ap (λ n. weighted f value (λ i. table i place) (suc n)) none
          ∙ ap (λ v. f.add f.zero (f.mul v (table 0 place))) one ∙ sym (one_row (table 0 place))

-- ---- rows that a loop writes

module _ {F R : Type 0} {f : Ops F} (fl : IsField f) (items : R → List F) (none : R) where
  abbrev pub at : List R → ℕ → ℕ → F
  at rows i place = coefficient f (items (slice_index_or rows i none)) place

  pub entry-same : (rows : List R) (i : ℕ) (row : R) (place : ℕ) → i < length rows → at (slice_set rows i row) i place ≡ coefficient f (items row) place
  entry-same rows i row place room = ap (λ r. coefficient f (items r) place) (get_or-set_same rows i row none room)

  pub entry-other : (rows : List R) (i j : ℕ) (row : R) (place : ℕ) → j ≢ i → at (slice_set rows i row) j place ≡ at rows j place
  entry-other rows i j row place n = ap (λ r. coefficient f (items r) place) (get_or-set_other rows i j row none n)

  -- one more row of a step, and its factor
  pub row_more : (before rows : List R) (factors : List F) (row : ℕ → F) (list : R) (i size : ℕ) (t : F) → i < length rows → i < length factors
      → ((k place : ℕ) → k < i → place < size → at rows k place ≡ f.add (at before k place) (f.mul (coefficient f factors k) (row place)))
      → ((k place : ℕ) → i ≤ k → at rows k place ≡ at before k place)
      → ((place : ℕ) → place < size → coefficient f (items list) place ≡ f.add (at rows i place) (f.mul t (row place)))
      → (k place : ℕ) → k < i + 1 → place < size
      → at (slice_set rows i list) k place ≡ f.add (at before k place) (f.mul (coefficient f (slice_set factors i t) k) (row place))
  row_more before rows factors row list i size t room room' added rest is k place h less = elim (dec_lt k i) [
    | yes below ↦ (
        let apart : k ≢ i = λ e. omega (arith, e, below) in
        entry-other rows i k list place apart ∙ added k place below less
        ∙ ap (λ u. f.add (at before k place) (f.mul u (row place))) (sym (get_or-set_other factors i k t f.zero apart))
        )
    | no above ↦ (
        let same : k ≡ i = omega arith in
        subst (λ n. at (slice_set rows i list) n place ≡ f.add (at before n place) (f.mul (coefficient f (slice_set factors i t) n) (row place))) (sym same)
        (entry-same rows i list place room ∙ is place less
        ∙ ap (λ u. f.add u (f.mul t (row place))) (rest i place (omega arith))
        ∙ ap (λ u. f.add (at before i place) (f.mul u (row place))) (sym (get_or-set_same factors i t f.zero room')))
        )
  ]

-- the same answer, said otherwise
pub said : {A N N' : Type 0} {S S' : A → Type 0} (r : Option A) → (N → N') → ((x : A) → S x → S' x) → MatchOption r N S → MatchOption r N' S'
said None n s h = n h
said (Some x) n s h = s x h
