-- Where four errors are detected, one pattern at most has two errors or fewer.
use Rattle.std.specs.Prelude.{◌≢◌}
use Rattle.std.specs.List.{AllByRecursion}
use Rattle.std.proofs.Common.{◌≡◌, ℕ, suc, ◌<◌, ◌≤◌, List, [], ◌∷◌, ◌++◌, map, length, ◌⊎◌, inl, inr, subst, sym, ap, ◌∙◌, refl, arith}
use Rattle.std.proofs.lemmas.List.{length-append, length-map}
use Rattle.bech32_gf.specs.Field.{Ops, IsField}
use Rattle.bech32_gf.specs.laws.Ring.{ring}
use Rattle.bech32_poly.specs.Distinct.{IsAmong, IsOnce}
use Rattle.bech32_poly.specs.Division.{remainder_of}
use Rattle.bech32_poly.specs.Pattern.{pattern_polynomial, value_of_pattern_at}
use Rattle.bech32_poly.specs.Polynomial.{add, coefficient, scale}
use Rattle.bech32_poly.proofs.Lists.{coefficient-add, coefficient-scale}
use Rattle.bech32_poly.proofs.PatternSums.{coefficient-pattern_polynomial}
use Rattle.bech32_poly.proofs.Remainder.{remainder_exists, remainder_of-add, remainder_of-same, remainder_of-scale, remainder_unique}
use Rattle.bech32_poly.proofs.Zero.{difference_zero}
use Rattle.bech32_bch.specs.Pattern.{HasRemainder, IsPattern, locations}
use Rattle.bech32_bch.proofs.Alone.{mem_or_not}
use Rattle.bech32_bch.proofs.Counting.{outside, outside_located, outside_of, located_outside}
use Rattle.bech32_bch.proofs.Patterns.{all-kept, all_located, at-kept, at_absent, at_listed, errors-misses, kept, kept-once, kept-values, kept_of, locations_listed, misses_most, outside_count}
use Rattle.bech32_bch.proofs.Places.{all_of, length-locations, look, mem_left, mem_right, mem_split, not_mem, once-append}
use Rattle.bech32_bch.proofs.Rising.{once_in_order}
use Rattle.bech32_bch.specs.Detection.{DetectsFour}
use Rattle.bech32_near.specs.search.Nearest.{IsEarlier}
use Rattle.bech32_near.specs.search.Steps.{AreAll, IsGathered}
use Rattle.bech32_near.proofs.NearestListing.{located_below}

once-outside : {F : Type 0} (s : List ℕ) (e : List (ℕ × F)) → IsOnce (locations e) → IsOnce (outside s e)
unfolding outside_of
once-outside s [] h = tt
once-outside s (p ∷ e) h = step (mem_or_not p.0 s) (once-outside s e h.1)
  where
    step : (d : IsAmong p.0 s ⊎ (IsAmong p.0 s → ⊥)) → IsOnce (outside s e) → IsOnce (outside_of s p.0 d (outside s e))
    step (inl m) r = r
    step (inr n) r = (all_of (λ y. p.0 ≢ y) (outside s e) (λ y m z. not_mem p.0 (locations e) h.0 (subst (λ u. IsAmong u (locations e)) (sym z) (outside_located s e y m).0)), r)

module _ {F : Type 0} {f : Ops F} (fl : IsField f) where
  length-kept : (e : List (ℕ × F)) → length (kept fl e) ≤ length e
  unfolding kept_of
  length-kept [] = omega arith
  length-kept (p ∷ e) = step (fl.same_or_not p.1 f.zero) (length-kept e)
    where
      step : (d : Dec (p.1 ≡ f.zero)) → length (kept fl e) ≤ length e → length (kept_of fl p d (kept fl e)) ≤ suc (length e)
      step (yes z) r = omega arith
      step (no n) r = omega arith

  -- a list of errors that leaves the residue
  pub record Leaves (g residue : List F) (w most : ℕ) (x : List (ℕ × F)) : Type 0 where
    pub once : IsOnce (locations x)
    pub below : AllByRecursion (λ i. i < w) (locations x)
    pub few : length x ≤ most
    pub remainder : HasRemainder f g residue x

  pub gathered_leaves : (g residue : List F) (w most : ℕ) (x : List (ℕ × F)) → IsGathered f g residue [] w most x → Leaves g residue w most x
  gathered_leaves g residue w most x h = from h.given h.parts h.placed
    where
      from : (given : List (ℕ × F)) → x ≡ given ++ h.errors → locations given ≡ [] → Leaves g residue w most x
      from (q ∷ given) parts placed = absurd (cc placed)
      from [] parts placed = record {
        once = subst (λ u. IsOnce (locations u)) (sym parts) (once_in_order (locations h.errors) h.in_order);
        below = subst (λ u. AllByRecursion (λ i. i < w) (locations u)) (sym parts) (located_below f [] w h.errors h.each);
        few = subst (λ u. length u ≤ most) (sym parts) h.few;
        remainder = h.remainder;
      }

  none_of : (a b : F) → a ≡ f.zero → b ≡ f.zero → f.add a (f.mul (f.neg f.one) b) ≡ f.zero
  none_of a b e k = rw (e, k) (simp (ring, fl))

  taken_off : (a b : F) → f.add a (f.mul (f.neg f.one) b) ≡ f.add a (f.neg b)
  taken_off a b = simp (ring, fl)

  itself_off : (a : F) → f.add a (f.mul (f.neg f.one) a) ≡ f.zero
  itself_off a = taken_off a a ∙ fl.add_neg a

  module _ (g residue : List F) (w : ℕ) (x y : List (ℕ × F)) (h : Leaves g residue w 2 x) (k : Leaves g residue w 2 y) where
    abbrev difference : ℕ → F
    difference i = f.add (value_of_pattern_at f x i) (f.mul (f.neg f.one) (value_of_pattern_at f y i))

    -- the locations of both
    abbrev all : List ℕ
    all = locations x ++ outside (locations x) y

    all_once : IsOnce all
    all_once = once-append (locations x) (outside (locations x) y) h.once (once-outside (locations x) y k.once) (λ i m n. (outside_located (locations x) y i n).1 m)

    all_below : AllByRecursion (λ i. i < w) all
    all_below = all_of (λ i. i < w) all (λ i m. elim (mem_split i (locations x) (outside (locations x) y) m) [
      | inl n ↦ look (λ j. j < w) i (locations x) h.below n
      | inr n ↦ look (λ j. j < w) i (locations y) k.below (outside_located (locations x) y i n).0
    ])

    all_few : length all ≤ 4
    all_few = omega (arith, length-append (locations x) (outside (locations x) y), length-locations x, h.few, outside_count (locations x) y, errors-misses (locations x) y, misses_most (locations x) (locations y), length-locations y, k.few)

    abbrev listed : List (ℕ × F)
    listed = map (λ i. (i, difference i)) all

    not_all : (i : ℕ) → (IsAmong i all → ⊥) → difference i ≡ f.zero
    not_all i n =
        let first : IsAmong i (locations x) → ⊥ = λ m. n (mem_left i (locations x) (outside (locations x) y) m) in
        none_of (value_of_pattern_at f x i) (value_of_pattern_at f y i) (at_absent fl x i first)
        (at_absent fl y i (λ m. n (mem_right i (locations x) (outside (locations x) y) (located_outside (locations x) y i m first))))

    at-listed : (i : ℕ) → value_of_pattern_at f listed i ≡ difference i
    at-listed i = elim (mem_or_not i all) [
      | inl m ↦ at_listed fl difference all i all_once m
      | inr n ↦ at_absent fl listed i (λ m. n (subst (λ u. IsAmong i u) (locations_listed difference all) m)) ∙ sym (not_all i n)
    ]

    abbrev differences : List (ℕ × F)
    differences = kept fl listed

    at-differences : (i : ℕ) → value_of_pattern_at f differences i ≡ difference i
    at-differences i = at-kept fl listed i ∙ at-listed i

    is_pattern : IsPattern f w differences
    is_pattern = record {
      below = all_located (λ i. i < w) differences (all-kept fl (λ i. i < w) listed (subst (λ u. AllByRecursion (λ i. i < w) u) (sym (locations_listed difference all)) all_below));
      values = kept-values fl listed;
      once = kept-once fl listed (subst (λ u. IsOnce u) (sym (locations_listed difference all)) all_once);
    }

    left_is : (z : List (ℕ × F)) → HasRemainder f g residue z → (i : ℕ) → coefficient f (remainder_of f g (pattern_polynomial f z)) i ≡ coefficient f residue i
    left_is z r i = ap (λ u. coefficient f u i) (sym (remainder_unique fl g (pattern_polynomial f z) r.0 r.1)) ∙ r.2 i

    nothing_left : HasRemainder f g [] differences
    nothing_left = (
      remainder_of f g (pattern_polynomial f differences),
      remainder_exists fl g (pattern_polynomial f differences),
      λ i.
          ap (λ u. coefficient f u i)
          (remainder_of-same fl g (pattern_polynomial f differences) (add f (pattern_polynomial f x) (scale f (f.neg f.one) (pattern_polynomial f y))) same
          ∙ remainder_of-add fl g (pattern_polynomial f x) (scale f (f.neg f.one) (pattern_polynomial f y))
          ∙ ap (add f (remainder_of f g (pattern_polynomial f x))) (remainder_of-scale fl g (f.neg f.one) (pattern_polynomial f y)))
          ∙ coefficient-add fl (remainder_of f g (pattern_polynomial f x)) (scale f (f.neg f.one) (remainder_of f g (pattern_polynomial f y))) i
          ∙ ap (f.add (coefficient f (remainder_of f g (pattern_polynomial f x)) i)) (coefficient-scale fl (f.neg f.one) (remainder_of f g (pattern_polynomial f y)) i)
          ∙ ap (λ u. f.add u (f.mul (f.neg f.one) (coefficient f (remainder_of f g (pattern_polynomial f y)) i))) (left_is x h.remainder i)
          ∙ ap (λ u. f.add (coefficient f residue i) (f.mul (f.neg f.one) u)) (left_is y k.remainder i)
          ∙ itself_off (coefficient f residue i),
    )
      where
        same : (i : ℕ) → coefficient f (pattern_polynomial f differences) i ≡ coefficient f (add f (pattern_polynomial f x) (scale f (f.neg f.one) (pattern_polynomial f y))) i
        same i =
            coefficient-pattern_polynomial fl differences i ∙ at-differences i
            ∙ ap (λ u. f.add u (f.mul (f.neg f.one) (value_of_pattern_at f y i))) (sym (coefficient-pattern_polynomial fl x i))
            ∙ ap (λ u. f.add (coefficient f (pattern_polynomial f x) i) (f.mul (f.neg f.one) u)) (sym (coefficient-pattern_polynomial fl y i))
            ∙ ap (f.add (coefficient f (pattern_polynomial f x) i)) (sym (coefficient-scale fl (f.neg f.one) (pattern_polynomial f y) i))
            ∙ sym (coefficient-add fl (pattern_polynomial f x) (scale f (f.neg f.one) (pattern_polynomial f y)) i)

    -- they have the same values
    pub same_two : DetectsFour f g w → (i : ℕ) → value_of_pattern_at f x i ≡ value_of_pattern_at f y i
    same_two detects i = step differences refl
      where
        few : length differences ≤ 4
        few = omega (arith, length-kept listed, length-map {B = ℕ × F} all (λ i. (i, difference i)), all_few)

        step : (d : List (ℕ × F)) → differences ≡ d → value_of_pattern_at f x i ≡ value_of_pattern_at f y i
        step [] e = difference_zero fl _ _ (sym (taken_off _ _) ∙ sym (at-differences i) ∙ ap (λ u. value_of_pattern_at f u i) e)
        step (p ∷ d) e =
            let some : length differences ≡ suc (length d) = ap (λ u. length u) e in
            absurd (detects differences is_pattern (omega arith) few nothing_left)

  -- of all that are gathered there is one at most
  pub at_most_one : (rank : F → ℕ) (g residue : List F) (w errors : ℕ) (listings : List (List (ℕ × F))) → AreAll (IsEarlier f rank []) (IsGathered f g residue [] w errors) listings → errors ≤ 2 → DetectsFour f g w → length listings ≤ 1
  at_most_one rank g residue w errors [] h few detects = omega arith
  at_most_one rank g residue w errors (x ∷ []) h few detects = omega arith
  at_most_one rank g residue w errors (x ∷ y ∷ listings) h few detects =
      let before : IsEarlier f rank [] x y = h.rising.0.0 in
      let less : rank (value_of_pattern_at f x before.location) < rank (value_of_pattern_at f y before.location) = before.lower in
      let same : rank (value_of_pattern_at f x before.location) ≡ rank (value_of_pattern_at f y before.location) = ap rank (same_two g residue w x y (two x h.each.0) (two y h.each.1.0) detects before.location) in
      absurd (omega arith)
    where
      two : (z : List (ℕ × F)) → IsGathered f g residue [] w errors z → Leaves g residue w 2 z
      two z k =
          let l : Leaves g residue w errors z = gathered_leaves g residue w errors z k in
          record { once = l.once; below = l.below; few = omega (arith, l.few, few); remainder = l.remainder }
