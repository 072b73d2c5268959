-- What two lists of elements differ in, as a pattern.
use Rattle.std.specs.Prelude.{◌==◌, ◌≢◌, Bool, true, false, cond}
use Rattle.std.specs.List.{AllByRecursion}
use Rattle.std.proofs.Common.{◌≡◌, ℕ, suc, ◌<◌, ◌≤◌, List, [], ◌∷◌, ◌++◌, length, ◌⊎◌, inl, inr, subst, sym, ap, ◌∙◌, refl, arith}
use Rattle.std.proofs.Math.Decide.{dec_lt}
use Rattle.std.proofs.lemmas.Bool.Decides.{eqb_tells}
use Rattle.bech32_gf.specs.Fe32 as fe32
use Rattle.bech32_gf.specs.Fe32.{ops}
use Rattle.bech32_gf.specs.declared.gf32.Fe32.{Fe32}
use Rattle.bech32_gf.specs.laws.Fe32Laws.{is_field}
use Rattle.bech32_gf.specs.laws.FieldLaws.{zero_add}
use Rattle.bech32_poly.specs.Distinct.{IsAmong, IsNotAmong, IsOnce}
use Rattle.bech32_poly.specs.Division.{remainder_of}
use Rattle.bech32_poly.specs.Pattern.{pattern_polynomial, value_of_pattern_at}
use Rattle.bech32_poly.specs.Polynomial.{IsSamePolynomial, add, appended, coefficient}
use Rattle.bech32_poly.specs.Remainder.{IsRemainder}
use Rattle.bech32_poly.proofs.Lists.{coefficient-add, same_cons}
use Rattle.bech32_poly.proofs.Remainder.{remainder_exists, remainder_of-add, remainder_of-same, remainder_unique}
use Rattle.bech32_poly.proofs.Zero.{difference_zero}
use Rattle.bech32_bch.specs.Erasures.{has, with_erasures}
use Rattle.bech32_bch.specs.Pattern.{HasRemainder, IsPattern, errors_outside, locations}
use Rattle.bech32_bch.proofs.Alone.{mem_or_not}
use Rattle.bech32_bch.proofs.Counting.{located_outside, outside, outside_located}
use Rattle.bech32_bch.proofs.Patterns.{at_absent, at_first, at_rest, outside_count, own_values}
use Rattle.bech32_bch.proofs.Places.{not_mem, once_fits}
use Rattle.bech32_bch.proofs.Solved.{once_outside}
use Rattle.bech32_correction.specs.MendedElements.{mended}
use Rattle.bech32_near.specs.NearTexts.{differences_outside}
use Rattle.bech32_correction.proofs.Sums.{appended-mended}

-- the sum of the two elements at each location where they differ
abbrev pub differences : List Fe32 → List Fe32 → List (ℕ × Fe32)
differences [] ys = []
differences (x ∷ xs) [] = []
differences (x ∷ xs) (y ∷ ys) = cond (x.value == y.value) (differences xs ys) ((length xs, fe32.add x y) ∷ differences xs ys)

-- ---- it is a pattern below their length

abbrev Below : ℕ → List (ℕ × Fe32) → Type 0
Below n e = AllByRecursion (λ (p : ℕ × Fe32). p.0 < n) e

higher : (n : ℕ) (e : List (ℕ × Fe32)) → Below n e → Below (suc n) e
higher n [] a = tt
higher n (p ∷ e) a = let low : p.0 < n = a.0 in (omega arith, higher n e a.1)

below : (xs ys : List Fe32) → Below (length xs) (differences xs ys)
below [] ys = tt
below (x ∷ xs) [] = tt
below (x ∷ xs) (y ∷ ys) = step (x.value == y.value) (higher (length xs) (differences xs ys) (below xs ys))
  where
    step : (b : Bool) → Below (suc (length xs)) (differences xs ys) → Below (suc (length xs)) (cond b (differences xs ys) ((length xs, fe32.add x y) ∷ differences xs ys))
    step true a = a
    step false a = (omega arith, a)

not_there : (n i : ℕ) (e : List (ℕ × Fe32)) → n ≤ i → Below n e → IsNotAmong i (locations e)
not_there n i [] h a = tt
not_there n i (p ∷ e) h a = let low : p.0 < n = a.0 in ((λ z. absurd (omega (arith, z))), not_there n i e h a.1)

not_here : (xs ys : List Fe32) → IsNotAmong (length xs) (locations (differences xs ys))
not_here xs ys = not_there (length xs) (length xs) (differences xs ys) (omega arith) (below xs ys)

once : (xs ys : List Fe32) → IsOnce (locations (differences xs ys))
once [] ys = tt
once (x ∷ xs) [] = tt
once (x ∷ xs) (y ∷ ys) = step (x.value == y.value) (once xs ys) (not_here xs ys)
  where
    step : (b : Bool) → IsOnce (locations (differences xs ys)) → IsNotAmong (length xs) (locations (differences xs ys)) → IsOnce (locations (cond b (differences xs ys) ((length xs, fe32.add x y) ∷ differences xs ys)))
    step true r n = r
    step false r n = (n, r)

values : (xs ys : List Fe32) → AllByRecursion (λ (p : ℕ × Fe32). p.1 ≢ fe32.zero) (differences xs ys)
values [] ys = tt
values (x ∷ xs) [] = tt
values (x ∷ xs) (y ∷ ys) = step (eqb_tells x.value y.value) (values xs ys)
  where
    Values : Bool → Type 0
    Values b = AllByRecursion (λ (p : ℕ × Fe32). p.1 ≢ fe32.zero) (cond b (differences xs ys) ((length xs, fe32.add x y) ∷ differences xs ys))

    step : ((x.value == y.value) ≡ true × (x.value ≡ y.value)) ⊎ ((x.value == y.value) ≡ false × (x.value ≢ y.value)) → AllByRecursion (λ (p : ℕ × Fe32). p.1 ≢ fe32.zero) (differences xs ys) → Values (x.value == y.value)
    step (inl t) r = subst Values (sym t.0) r
    step (inr t) r = subst Values (sym t.0) ((λ z. t.1 (ap (λ (u : Fe32). u.value) (difference_zero is_field x y z))), r)

pub is_pattern : (w : ℕ) (xs ys : List Fe32) → length xs ≡ w → IsPattern ops w (differences xs ys)
is_pattern w xs ys e = record { below = subst (λ n. Below n (differences xs ys)) e (below xs ys); values = values xs ys; once = once xs ys }

-- ---- how many of them stand outside given locations

counted : (s : List ℕ) (xs ys : List Fe32) → errors_outside s (differences xs ys) ≡ differences_outside s xs ys
counted s [] ys = refl
counted s (x ∷ xs) [] = refl
counted s (x ∷ xs) (y ∷ ys) = step (x.value == y.value) (counted s xs ys)
  where
    step : (b : Bool) → errors_outside s (differences xs ys) ≡ differences_outside s xs ys
        → errors_outside s (cond b (differences xs ys) ((length xs, fe32.add x y) ∷ differences xs ys))
        ≡ cond b (differences_outside s xs ys) (cond (has s (length xs)) (differences_outside s xs ys) (suc (differences_outside s xs ys)))
    step true h = h
    step false h = ap (λ n. cond (has s (length xs)) n (suc n)) h

same_outside : (s t : List ℕ) → ((i : ℕ) → has s i ≡ has t i) → (xs ys : List Fe32) → differences_outside s xs ys ≡ differences_outside t xs ys
same_outside s t h [] ys = refl
same_outside s t h (x ∷ xs) [] = refl
same_outside s t h (x ∷ xs) (y ∷ ys) =
    let rest : differences_outside s xs ys ≡ differences_outside t xs ys = same_outside s t h xs ys in
    λ k. cond (x.value == y.value) (rest k) (cond (h (length xs) k) (rest k) (suc (rest k)))

has-append : (s : List ℕ) (x i : ℕ) → has (s ++ x ∷ []) i ≡ cond (has s i) true (i == x)
has-append [] x i = step (i == x)
  where
    step : (b : Bool) → cond b true false ≡ b
    step true = refl
    step false = refl
has-append (m ∷ s) x i = step (i == m) (has-append s x i)
  where
    step : (b : Bool) → has (s ++ x ∷ []) i ≡ cond (has s i) true (i == x) → cond b true (has (s ++ x ∷ []) i) ≡ cond (cond b true (has s i)) true (i == x)
    step true h = refl
    step false h = h

grouped : (a b c : Bool) → cond (cond a true b) true c ≡ cond a true (cond b true c)
grouped true b c = refl
grouped false b c = refl

has-with_erasures : (s more : List ℕ) (i : ℕ) → has (with_erasures s more) i ≡ cond (has s i) true (has more i)
has-with_erasures s [] i = step (has s i)
  where
    step : (b : Bool) → b ≡ cond b true false
    step true = refl
    step false = refl
has-with_erasures s (x ∷ more) i = has-with_erasures (cond (has s x) s (s ++ x ∷ [])) more i ∙ step (has s x) refl
  where
    there : has s i ≡ true → cond (has s i) true (has more i) ≡ cond (has s i) true (cond (i == x) true (has more i))
    there e = ap (λ b. cond b true (has more i)) e ∙ sym (ap (λ b. cond b true (cond (i == x) true (has more i))) e)

    known : has s x ≡ true → ((i == x) ≡ true × (i ≡ x)) ⊎ ((i == x) ≡ false × (i ≢ x)) → cond (has s i) true (has more i) ≡ cond (has s i) true (cond (i == x) true (has more i))
    known e (inl t) = there (ap (has s) t.1 ∙ e)
    known e (inr t) = ap (λ b. cond (has s i) true (cond b true (has more i))) (sym t.0)

    step : (b : Bool) → has s x ≡ b → cond (has (cond b s (s ++ x ∷ [])) i) true (has more i) ≡ cond (has s i) true (cond (i == x) true (has more i))
    step true e = known e (eqb_tells i x)
    step false e = ap (λ b. cond b true (has more i)) (has-append s x i) ∙ grouped (has s i) (i == x) (has more i)

pub few_outside : (given : List ℕ) (xs ys : List Fe32) → errors_outside (with_erasures [] given) (differences xs ys) ≡ differences_outside given xs ys
few_outside given xs ys = counted (with_erasures [] given) xs ys ∙ same_outside (with_erasures [] given) given (has-with_erasures [] given) xs ys

-- ---- it makes the one list of the other

-- an element added twice is nothing
twice : (a b : Fe32) → fe32.add a (fe32.add a b) ≡ b
twice a b = sym (is_field.add_assoc a a b) ∙ ap (λ (x : Fe32). fe32.add x b) (is_field.add_neg a) ∙ zero_add is_field b

at_own_place : (x y : Fe32) (xs ys : List Fe32) → fe32.add x (value_of_pattern_at ops (differences (x ∷ xs) (y ∷ ys)) (length xs)) ≡ y
at_own_place x y xs ys = step (eqb_tells x.value y.value)
  where
    Place : Bool → Type 0
    Place b = fe32.add x (value_of_pattern_at ops (cond b (differences xs ys) ((length xs, fe32.add x y) ∷ differences xs ys)) (length xs)) ≡ y

    step : ((x.value == y.value) ≡ true × (x.value ≡ y.value)) ⊎ ((x.value == y.value) ≡ false × (x.value ≢ y.value)) → Place (x.value == y.value)
    step (inl t) =
        subst Place (sym t.0)
        (ap (fe32.add x) (at_absent is_field (differences xs ys) (length xs) (not_mem (length xs) (locations (differences xs ys)) (not_here xs ys))) ∙ is_field.add_zero x ∙ fe32.path x y t.1)
    step (inr t) =
        subst Place (sym t.0)
        (ap (fe32.add x) (at_first is_field (length xs, fe32.add x y) (differences xs ys) (not_here xs ys)) ∙ twice x y)

at_lower_place : (x y : Fe32) (xs ys : List Fe32) (i : ℕ) → i < length xs → value_of_pattern_at ops (differences (x ∷ xs) (y ∷ ys)) i ≡ value_of_pattern_at ops (differences xs ys) i
at_lower_place x y xs ys i low = step (x.value == y.value)
  where
    step : (b : Bool) → value_of_pattern_at ops (cond b (differences xs ys) ((length xs, fe32.add x y) ∷ differences xs ys)) i ≡ value_of_pattern_at ops (differences xs ys) i
    step true = refl
    step false = at_rest is_field (length xs, fe32.add x y) (differences xs ys) i (λ z. absurd (omega (arith, z)))

pub mended_to : (xs ys : List Fe32) (e : List (ℕ × Fe32)) → length xs ≡ length ys → ((i : ℕ) → i < length xs → value_of_pattern_at ops e i ≡ value_of_pattern_at ops (differences xs ys) i)
    → mended ops e xs ≡ ys
mended_to [] [] e size h = refl
mended_to [] (y ∷ ys) e size h = absurd (omega (arith, size))
mended_to (x ∷ xs) [] e size h = absurd (omega (arith, size))
mended_to (x ∷ xs) (y ∷ ys) e size h =
    same_cons _ _ _ _ (ap (fe32.add x) (h (length xs) (omega arith)) ∙ at_own_place x y xs ys)
    (mended_to xs ys e (omega (arith, size)) (λ i low. h i (omega (arith, low)) ∙ at_lower_place x y xs ys i low))

-- a list does not differ from itself
pub none_differ : (xs : List Fe32) → differences xs xs ≡ []
none_differ [] = refl
none_differ (x ∷ xs) = step (eqb_tells x.value x.value) (none_differ xs)
  where
    step : ((x.value == x.value) ≡ true × (x.value ≡ x.value)) ⊎ ((x.value == x.value) ≡ false × (x.value ≢ x.value)) → differences xs xs ≡ [] → cond (x.value == x.value) (differences xs xs) ((length xs, fe32.add x x) ∷ differences xs xs) ≡ []
    step (inl t) r = ap (λ b. cond b (differences xs xs) ((length xs, fe32.add x x) ∷ differences xs xs)) t.0 ∙ r
    step (inr t) r = absurd (t.1 refl)

-- ---- what a list and the mended one differ in is what was added

module _ (e : List (ℕ × Fe32)) where
  own_value : (xs : List Fe32) (i : ℕ) → i < length xs → value_of_pattern_at ops (differences xs (mended ops e xs)) i ≡ value_of_pattern_at ops e i
  own_value [] i low = absurd (omega (arith, low))
  own_value (x ∷ xs) i low = elim (dec_lt i (length xs)) [
    | yes h ↦ at_lower_place x (fe32.add x (value_of_pattern_at ops e (length xs))) xs (mended ops e xs) i h ∙ own_value xs i h
    | no h ↦ (
        let last : length xs ≡ i = omega arith in
        subst (λ (j : ℕ). value_of_pattern_at ops (differences (x ∷ xs) (mended ops e (x ∷ xs))) j ≡ value_of_pattern_at ops e j) last
        (sym (twice x (value_of_pattern_at ops (differences (x ∷ xs) (mended ops e (x ∷ xs))) (length xs)))
        ∙ ap (fe32.add x) (at_own_place x (fe32.add x (value_of_pattern_at ops e (length xs))) xs (mended ops e xs))
        ∙ twice x (value_of_pattern_at ops e (length xs)))
        )
  ]

  pub added_value : (xs : List Fe32) → Below (length xs) e → (i : ℕ) → value_of_pattern_at ops (differences xs (mended ops e xs)) i ≡ value_of_pattern_at ops e i
  added_value xs low i = elim (dec_lt i (length xs)) [
    | yes h ↦ own_value xs i h
    | no h ↦ nothing (differences xs (mended ops e xs)) (below xs (mended ops e xs)) (omega (arith, h)) ∙ sym (nothing e low (omega (arith, h)))
  ]
    where
      nothing : (d : List (ℕ × Fe32)) → Below (length xs) d → length xs ≤ i → value_of_pattern_at ops d i ≡ fe32.zero
      nothing d a h = at_absent is_field d i (not_mem i (locations d) (not_there (length xs) i d h a))

-- of patterns with the same values, the one without zeros has no more errors
no_more : (s : List ℕ) (d e : List (ℕ × Fe32)) → IsOnce (locations d) → AllByRecursion (λ (p : ℕ × Fe32). p.1 ≢ fe32.zero) d
    → ((i : ℕ) → value_of_pattern_at ops d i ≡ value_of_pattern_at ops e i) → errors_outside s d ≤ errors_outside s e
no_more s d e once_each values_each same =
    let fits : length (outside s d) ≤ length (outside s e) =
    once_fits (outside s d) (outside s e) (once_outside s d once_each) (λ i m. let there = outside_located s d i m in located_outside s e i (placed i there.0) there.1) in
    omega (arith, fits, outside_count s d, outside_count s e)
  where
    not_zero : (rest : List (ℕ × Fe32)) (i : ℕ) → AllByRecursion (λ (p : ℕ × Fe32). p.1 ≡ value_of_pattern_at ops d p.0) rest → AllByRecursion (λ (p : ℕ × Fe32). p.1 ≢ fe32.zero) rest
        → IsAmong i (locations rest) → value_of_pattern_at ops d i ≢ fe32.zero
    not_zero [] i own some m = absurd m
    not_zero (p ∷ rest) i own some (inl k) = λ z. some.0 (own.0 ∙ ap (value_of_pattern_at ops d) (sym k) ∙ z)
    not_zero (p ∷ rest) i own some (inr m) = not_zero rest i own.1 some.1 m

    placed : (i : ℕ) → IsAmong i (locations d) → IsAmong i (locations e)
    placed i m = elim (mem_or_not i (locations e)) [
      | inl k ↦ k
      | inr k ↦ absurd (not_zero d i (own_values is_field d once_each) values_each m (same i ∙ at_absent is_field e i k))
    ]

-- what a list is mended by changes no more places outside given locations than a pattern with its values has errors there
pub few_mended : (given : List ℕ) (xs : List Fe32) (items pattern : List (ℕ × Fe32)) → AllByRecursion (λ (p : ℕ × Fe32). p.0 < length xs) items
    → ((i : ℕ) → value_of_pattern_at ops items i ≡ value_of_pattern_at ops pattern i)
    → differences_outside given xs (mended ops items xs) ≤ errors_outside (with_erasures [] given) pattern
few_mended given xs items pattern low same =
    let ys = mended ops items xs in
    let most : errors_outside (with_erasures [] given) (differences xs ys) ≤ errors_outside (with_erasures [] given) pattern =
    no_more (with_erasures [] given) (differences xs ys) pattern (once xs ys) (values xs ys) (λ i. added_value items xs low i ∙ same i) in
    omega (arith, most, few_outside given xs ys)

-- ---- it has the residue as remainder

module _ (g target remainder residue p xs ys : List Fe32) (size : length xs ≡ length ys) (left : IsRemainder ops g (appended p xs) remainder) (right : IsRemainder ops g (appended p ys) target)
    (is : IsSamePolynomial ops residue (add ops remainder target)) where
  abbrev own : List Fe32
  own = remainder_of ops g (pattern_polynomial ops (differences xs ys))

  same : IsSamePolynomial ops (appended p ys) (add ops (appended p xs) (pattern_polynomial ops (differences xs ys)))
  same =
      subst (λ u. IsSamePolynomial ops (appended p u) (add ops (appended p xs) (pattern_polynomial ops (differences xs ys)))) (mended_to xs ys (differences xs ys) size (λ i low. refl))
      (appended-mended is_field (differences xs ys) p xs (below xs ys))

  sum : target ≡ add ops remainder own
  sum =
      remainder_unique is_field g (appended p ys) target right
      ∙ remainder_of-same is_field g (appended p ys) (add ops (appended p xs) (pattern_polynomial ops (differences xs ys))) same
      ∙ remainder_of-add is_field g (appended p xs) (pattern_polynomial ops (differences xs ys))
      ∙ ap (λ u. add ops u own) (sym (remainder_unique is_field g (appended p xs) remainder left))

  pub residue_left : HasRemainder ops g residue (differences xs ys)
  residue_left = (
    own,
    remainder_exists is_field g (pattern_polynomial ops (differences xs ys)),
    λ i. sym (
        is i ∙ coefficient-add is_field remainder target i
        ∙ ap (λ u. fe32.add (coefficient ops remainder i) (coefficient ops u i)) sum
        ∙ ap (fe32.add (coefficient ops remainder i)) (coefficient-add is_field remainder own i)
        ∙ twice (coefficient ops remainder i) (coefficient ops own i)),
  )
