-- The polynomial of mended elements is the sum of the elements' polynomial and the pattern's.
use Rattle.std.specs.List.{AllByRecursion}
use Rattle.std.proofs.Common.{◌≡◌, ℕ, zero, suc, ◌+◌, ◌<◌, List, [], ◌∷◌, length, inl, inr, sym, ap, ◌∙◌, refl, arith}
use Rattle.bech32_gf.specs.Field.{Ops, IsField}
use Rattle.bech32_poly.specs.Distinct.{IsAmong}
use Rattle.bech32_poly.specs.Pattern.{pattern_polynomial, value_of_pattern_at}
use Rattle.bech32_poly.specs.Polynomial.{IsSamePolynomial, add, appended, coefficient}
use Rattle.bech32_poly.specs.Remainder.{IsRemainder}
use Rattle.bech32_poly.proofs.Lists.{coefficient-add}
use Rattle.bech32_poly.proofs.PatternSums.{coefficient-pattern_polynomial}
use Rattle.bech32_bch.specs.Pattern.{locations}
use Rattle.bech32_bch.proofs.Patterns.{at_absent}
use Rattle.bech32_correction.specs.MendedElements.{mended}

pub length-mended : {F : Type 0} (f : Ops F) (e : List (ℕ × F)) (xs : List F) → length (mended f e xs) ≡ length xs
length-mended f e [] = refl
length-mended f e (x ∷ xs) = ap suc (length-mended f e xs)

-- a list's locations are below what all its locations are below
not_among : {F : Type 0} (e : List (ℕ × F)) (n i : ℕ) → AllByRecursion (λ (p : ℕ × F). p.0 < n) e → IsAmong (n + i) (locations e) → ⊥
not_among [] n i below m = m
not_among (p ∷ e) n i below (inl same) = let less : p.0 < n = below.0 in omega (arith, same, less)
not_among (p ∷ e) n i below (inr m) = not_among e n i below.1 m

module _ {F : Type 0} {f : Ops F} (fl : IsField f) (e : List (ℕ × F)) where
  -- where q' is q with the values from this many places on, it is with all values once these places are put in below
  placed : (xs q q' : List F) → ((i : ℕ) → coefficient f q' i ≡ f.add (coefficient f q i) (value_of_pattern_at f e (length xs + i)))
      → (i : ℕ) → coefficient f (appended q' (mended f e xs)) i ≡ f.add (coefficient f (appended q xs) i) (value_of_pattern_at f e i)
  placed [] q q' h i = let k : 0 + i ≡ i = omega arith in h i ∙ ap (λ j. f.add (coefficient f q i) (value_of_pattern_at f e j)) k
  placed (x ∷ xs) q q' h i = placed xs (x ∷ q) (f.add x (value_of_pattern_at f e (length xs)) ∷ q') more i
    where
      more : (i : ℕ) → coefficient f (f.add x (value_of_pattern_at f e (length xs)) ∷ q') i
          ≡ f.add (coefficient f (x ∷ q) i) (value_of_pattern_at f e (length xs + i))
      more zero = let k : length xs ≡ length xs + 0 = omega arith in ap (λ j. f.add x (value_of_pattern_at f e j)) k
      more (suc i) = let k : suc (length xs) + i ≡ length xs + suc i = omega arith in h i ∙ ap (λ j. f.add (coefficient f q i) (value_of_pattern_at f e j)) k

  pub appended-mended : (p xs : List F) → AllByRecursion (λ (q : ℕ × F). q.0 < length xs) e
      → IsSamePolynomial f (appended p (mended f e xs)) (add f (appended p xs) (pattern_polynomial f e))
  appended-mended p xs below i =
      placed xs p p nothing i
      ∙ ap (f.add (coefficient f (appended p xs) i)) (sym (coefficient-pattern_polynomial fl e i))
      ∙ sym (coefficient-add fl (appended p xs) (pattern_polynomial f e) i)
    where
      nothing : (i : ℕ) → coefficient f p i ≡ f.add (coefficient f p i) (value_of_pattern_at f e (length xs + i))
      nothing i =
          sym (fl.add_zero (coefficient f p i))
          ∙ ap (f.add (coefficient f p i)) (sym (at_absent fl e (length xs + i) (not_among e (length xs) i below)))

-- the remainder is that of the coefficients
pub IsRemainder-same : {F : Type 0} {f : Ops F} (low p p' r : List F) → IsSamePolynomial f p' p → IsRemainder f low p r → IsRemainder f low p' r
IsRemainder-same low p p' r e h = record { quotient = h.quotient; divides = λ n. e n ∙ h.divides n; short = h.short }
