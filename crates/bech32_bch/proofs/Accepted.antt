-- What is listed and passes the second division is right.
use Rattle.std.specs.Prelude.{◌≢◌}
use Rattle.std.specs.List.{AllByRecursion}
use Rattle.std.proofs.Common.{◌≡◌, ℕ, zero, suc, ◌<◌, ◌≤◌, List, [], ◌∷◌, ◌++◌, map, length, drop, inl, inr, subst, sym, ap, ◌∙◌, refl, arith}
use Rattle.std.proofs.Math.Decide.{dec_lt}
use Rattle.bech32_gf.specs.Field.{Ops, IsField}
use Rattle.bech32_poly.specs.Distinct.{IsAmong, IsOnce}
use Rattle.bech32_poly.specs.Division.{remainder_of}
use Rattle.bech32_poly.specs.Embedding.{Embeds}
use Rattle.bech32_poly.specs.Pattern.{pattern_polynomial, value_of_pattern_at}
use Rattle.bech32_poly.specs.Polynomial.{IsSamePolynomial, coefficient}
use Rattle.bech32_poly.proofs.PatternSums.{remainder_of-pattern}
use Rattle.bech32_poly.proofs.Remainder.{length-remainder_of, remainder_exists, remainder_of-itself, remainder_of-same, remainder_unique}
use Rattle.bech32_bch.specs.Erasures.{AreErasures}
use Rattle.bech32_bch.specs.Listing.{IsListing, IsSound}
use Rattle.bech32_bch.specs.Pattern.{HasRemainder, IsAlone, IsPattern, Solves, errors_outside, locations}
use Rattle.bech32_bch.specs.Search.{AreUsableRoots, IsCandidate}
use Rattle.bech32_bch.proofs.Alone.{mem_or_not}
use Rattle.bech32_bch.proofs.Counting.{alone}
use Rattle.bech32_bch.proofs.Patterns.{all-kept, all_located, at-kept, at_absent, at_listed, errors-misses, kept, kept-errors, kept-once, kept-values, listed_same, locations_listed, misses, misses_after, misses_most, outside_count, own}
use Rattle.bech32_bch.proofs.Places.{all_of, drop_first, look, mem_left, mem_right, mem_split, once-append}
use Rattle.bech32_bch.proofs.Rising.{once_in_order}

each_value : {F : Type 0} (f : Ops F) (h : ℕ → F) (xs : List ℕ) → AllByRecursion (λ (p : ℕ × F). p.1 ≢ f.zero) (map (λ i. (i, h i)) xs) → AllByRecursion (λ i. h i ≢ f.zero) xs
each_value f h [] a = tt
each_value f h (x ∷ xs) a = (a.0, each_value f h xs a.1)

drop-map : {F : Type 0} (h : ℕ → ℕ × F) (k : ℕ) (xs : List ℕ) → drop k (map h xs) ≡ map h (drop k xs)
drop-map h zero [] = refl
drop-map h (suc k) [] = refl
drop-map h zero (x ∷ xs) = refl
drop-map h (suc k) (x ∷ xs) = drop-map h k xs

module _ {F K : Type 0} {f : Ops F} {o : Ops K} (fl : IsField f) (l : IsField o) {embed : F → K} (into : Embeds f o embed) where
  same_short : (g r r' : List F) → length r ≡ length g → length r' ≡ length g → IsSamePolynomial f r r' → r ≡ r'
  same_short g r r' e e' h = sym (remainder_of-itself fl g r e) ∙ remainder_of-same fl g r r' h ∙ remainder_of-itself fl g r' e'

  module _ (b : K) (start count w : ℕ) (g residue : List F) (s : List ℕ) (listing : List (ℕ × F)) (apart : (x y : F) → embed x ≡ embed y → x ≡ y)
      (usable : AreUsableRoots f o embed g b start count w) (erased : AreErasures w s) (h : IsCandidate f w s count listing)
      (left_over : IsSamePolynomial f (remainder_of f g (pattern_polynomial f listing)) residue) where
    once : IsOnce (s ++ h.errors)
    once = once-append s h.errors erased.once (once_in_order h.errors h.are_errors.in_order) (λ x m k. look (λ i. IsAmong i s → ⊥) x h.errors h.are_errors.outside k m)

    below : (i : ℕ) → IsAmong i (s ++ h.errors) → i < w
    below i m = elim (mem_split i s h.errors m) [ inl k ↦ look (λ j. j < w) i s erased.below k | inr k ↦ look (λ j. j < w) i h.errors h.are_errors.below k ]

    listing_once : IsOnce (locations listing)
    listing_once = subst (λ u. IsOnce u) (sym h.placed) once

    as_listed : listing ≡ map (λ i. (i, value_of_pattern_at f listing i)) (s ++ h.errors)
    as_listed = own fl listing listing_once ∙ ap (map (λ i. (i, value_of_pattern_at f listing i))) h.placed

    pattern : IsPattern f w (kept fl listing)
    pattern = record {
      below = all_located (λ i. i < w) (kept fl listing) (all-kept fl (λ i. i < w) listing (subst (λ u. AllByRecursion (λ i. i < w) u) (sym h.placed) (all_of (λ i. i < w) (s ++ h.errors) below)));
      values = kept-values fl listing;
      once = kept-once fl listing listing_once;
    }

    same_rem : remainder_of f g (pattern_polynomial f (kept fl listing)) ≡ remainder_of f g (pattern_polynomial f listing)
    same_rem = remainder_of-pattern fl g (kept fl listing) listing (at-kept fl listing)

    remains : IsSamePolynomial f (remainder_of f g (pattern_polynomial f (kept fl listing))) residue
    remains i = ap (λ u. coefficient f u i) same_rem ∙ left_over i

    errors_counted : errors_outside s (kept fl listing) ≤ length h.errors
    errors_counted = omega (arith, kept-errors fl s listing, errors-misses s listing ∙ ap (misses s) h.placed ∙ misses_after s s h.errors (λ x m. m), misses_most s h.errors)

    solves : Solves f g residue s w count (kept fl listing)
    solves = record {
      pattern = pattern;
      remainder = (remainder_of f g (pattern_polynomial f (kept fl listing)), remainder_exists fl g (pattern_polynomial f (kept fl listing)), remains);
      few = omega (arith, errors_counted, h.are_errors.few);
    }

    error_values : AllByRecursion (λ i. value_of_pattern_at f listing i ≢ f.zero) h.errors
    error_values = each_value f (value_of_pattern_at f listing) h.errors (subst (λ u. AllByRecursion (λ (p : ℕ × F). p.1 ≢ f.zero) u)
        (ap (drop (length s)) as_listed ∙ drop-map (λ i. (i, value_of_pattern_at f listing i)) (length s) (s ++ h.errors) ∙ ap (map (λ i. (i, value_of_pattern_at f listing i))) (drop_first s h.errors)) h.values)

    listed : IsListing f s (kept fl listing) listing
    listed = record {
      errors = h.errors;
      in_order = h.are_errors.in_order;
      are_errors = λ i. ((λ m. ((λ z. look (λ j. value_of_pattern_at f listing j ≢ f.zero) i h.errors error_values m (sym (at-kept fl listing i) ∙ z)), look (λ j. IsAmong j s → ⊥) i h.errors h.are_errors.outside m)), from i);
      items_are = as_listed ∙ listed_same (value_of_pattern_at f listing) (value_of_pattern_at f (kept fl listing)) (λ i. sym (at-kept fl listing i)) (s ++ h.errors);
    }
      where
        from : (i : ℕ) → (value_of_pattern_at f (kept fl listing) i ≢ f.zero) × (IsAmong i s → ⊥) → IsAmong i h.errors
        from i q = elim (mem_or_not i (s ++ h.errors)) [
          | inl m ↦ elim (mem_split i s h.errors m) [ inl k ↦ absurd (q.1 k) | inr k ↦ k ]
          | inr k ↦ absurd (q.0 (at-kept fl listing i ∙ at_absent fl listing i (λ m. k (subst (λ u. IsAmong i u) h.placed m))))
        ]

    same_rest : (e' : List (ℕ × F)) → HasRemainder f g residue e' → remainder_of f g (pattern_polynomial f e') ≡ remainder_of f g (pattern_polynomial f (kept fl listing))
    same_rest e' r' = sym (remainder_unique fl g (pattern_polynomial f e') r'.0 r'.1) ∙ same_short g r'.0 (remainder_of f g (pattern_polynomial f (kept fl listing))) r'.1.short (length-remainder_of fl g (pattern_polynomial f (kept fl listing))) (λ i. r'.2 i ∙ sym (remains i))

    only : IsAlone f g residue s w (kept fl listing)
    only e' p' r' other = elim (dec_lt (errors_outside s (kept fl listing)) (errors_outside s e')) [
      | yes k ↦ k
      | no k ↦ absurd (other (λ i. sym (same k i)))
    ]
      where
        same : (errors_outside s (kept fl listing) < errors_outside s e' → ⊥) → (i : ℕ) → value_of_pattern_at f (kept fl listing) i ≡ value_of_pattern_at f e' i
        same k = alone fl l into b usable.order.order w start count g (remainder_of f g (pattern_polynomial f (kept fl listing))) s (kept fl listing) e' apart usable.order.is_order usable.order.not_zero usable.order.long_enough usable.roots erased.below
            pattern.below p'.below refl (same_rest e' r')
            (omega (arith, solves.few, outside_count s (kept fl listing))) (omega (arith, outside_count s (kept fl listing), outside_count s e'))

    pub sound : IsSound f g residue s w count listing
    sound = record { pattern = kept fl listing; solves = solves; listing = listed; alone = only }

  -- the listing of a pattern that solves passes the second division
  pub passes_again : (w count : ℕ) (g residue : List F) (s : List ℕ) (e listing : List (ℕ × F)) → AreErasures w s → Solves f g residue s w count e → IsListing f s e listing
      → IsSamePolynomial f (remainder_of f g (pattern_polynomial f listing)) residue
  passes_again w count g residue s e listing erased h is i =
      ap (λ u. coefficient f u i) (remainder_of-pattern fl g listing e same ∙ sym (remainder_unique fl g (pattern_polynomial f e) h.remainder.0 h.remainder.1)) ∙ h.remainder.2 i
    where
      once : IsOnce (s ++ is.errors)
      once = once-append s is.errors erased.once (once_in_order is.errors is.in_order) (λ x m k. ((is.are_errors x).0 k).1 m)

      same : (j : ℕ) → value_of_pattern_at f listing j ≡ value_of_pattern_at f e j
      same j = elim (mem_or_not j (s ++ is.errors)) [
        | inl m ↦ ap (λ u. value_of_pattern_at f u j) is.items_are ∙ at_listed fl (value_of_pattern_at f e) (s ++ is.errors) j once m
        | inr k ↦ at_absent fl listing j (λ m. k (subst (λ u. IsAmong j u) (ap locations is.items_are ∙ locations_listed (value_of_pattern_at f e) (s ++ is.errors)) m)) ∙ sym (nothing j k)
      ]
        where
          nothing : (j : ℕ) → (IsAmong j (s ++ is.errors) → ⊥) → value_of_pattern_at f e j ≡ f.zero
          nothing j k = elim (fl.same_or_not (value_of_pattern_at f e j) f.zero) [
            | yes z ↦ z
            | no n ↦ elim (mem_or_not j s) [
              | inl m ↦ absurd (k (mem_left j s is.errors m))
              | inr m ↦ absurd (k (mem_right j s is.errors ((is.are_errors j).1 (n, m))))
            ]
          ]
