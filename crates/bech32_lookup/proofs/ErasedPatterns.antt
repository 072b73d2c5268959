-- Patterns of the erasures, and the equations that their values solve.
use Rattle.std.specs.Prelude.{◌≢◌, true, false, Bool, cond, slice_index}
use Rattle.std.specs.List.{AllByRecursion}
use Rattle.std.proofs.Common.{◌≡◌, ◌<◌, ◌≤◌, ◌+◌, ◌*◌, ℕ, zero, suc, List, [], ◌∷◌, ◌++◌, map, length, length-append, take, drop, ◌⊎◌, inl, inr, sym, ap, subst, ◌∙◌, refl, arith}
use Rattle.std.proofs.Math.Decide.{dec_lt}
use Rattle.std.proofs.lemmas.List.{append-nil, drop_all, take_all, take_more}
use Rattle.bech32_gf.specs.Field.{Ops, IsField}
use Rattle.bech32_gf.specs.laws.Ring.{neg_unique, one_mul}
use Rattle.bech32_poly.specs.Distinct.{IsAmong, IsOnce}
use Rattle.bech32_poly.specs.Division.{remainder_of}
use Rattle.bech32_poly.specs.Pattern.{monomial, pattern_polynomial, value_of_pattern_at}
use Rattle.bech32_poly.specs.Polynomial.{add, coefficient}
use Rattle.bech32_poly.proofs.Lists.{add_assoc, coefficient-add, coefficient-scale, coefficient-zeros}
use Rattle.bech32_poly.proofs.PatternSums.{remainder_of-pattern}
use Rattle.bech32_poly.proofs.Remainder.{length-remainder_of, remainder_exists, remainder_of-add}
use Rattle.bech32_bch.specs.Erasures.{AreErasures, has}
use Rattle.bech32_bch.specs.Pattern.{HasRemainder, Solves, errors_outside, locations}
use Rattle.bech32_bch.specs.Search.{IsCandidate}
use Rattle.bech32_bch.proofs.Alone.{at-outside, mem_or_not}
use Rattle.bech32_bch.proofs.Loops.{has-true}
use Rattle.bech32_bch.proofs.Patterns.{at_absent, at_listed, locations_listed}
use Rattle.bech32_bch.proofs.Places.{length-locations, locations-append, map_push}
use Rattle.bech32_lookup.specs.Equations.{AreCancelled, placed, weighted}
use Rattle.bech32_lookup.proofs.Elimination.{weighted-first, weighted-terms}
use Rattle.bech32_lookup.proofs.OneError.{remainder_of-single}
use Rattle.bech32_lookup.proofs.Remainders.{left_over, remainder_left}

-- ---- the erasures with values

pub locations-placed : {F : Type 0} (s : List ℕ) (value : ℕ → F) (n : ℕ) → n ≤ length s → locations (placed s value n) ≡ take n s
locations-placed s value zero h = refl
locations-placed s value (suc n) h =
    let more : n + 1 ≡ suc n = omega arith in
    locations-append (placed s value n) ((slice_index s n, value n) ∷ []) ∙ ap (λ u. u ++ slice_index s n ∷ []) (locations-placed s value n (omega arith))
    ∙ sym (take_more s n 0 (omega arith)) ∙ ap (λ k. take k s) more

pub length-placed : {F : Type 0} (s : List ℕ) (value : ℕ → F) (n : ℕ) → length (placed s value n) ≡ n
length-placed s value zero = refl
length-placed s value (suc n) =
    let more : n + 1 ≡ suc n = omega arith in
    length-append (placed s value n) ((slice_index s n, value n) ∷ []) ∙ ap (λ k. k + 1) (length-placed s value n) ∙ more

pub placed-map : {F : Type 0} (s : List ℕ) (h : ℕ → F) (n : ℕ) → n ≤ length s → placed s (λ i. h (slice_index s i)) n ≡ map {B = ℕ × F} (λ m. (m, h m)) (take n s)
placed-map s h zero less = refl
placed-map {F} s h (suc n) less =
    let more : n + 1 ≡ suc n = omega arith in
    ap (λ u. u ++ (slice_index s n, h (slice_index s n)) ∷ []) (placed-map s h n (omega arith))
    ∙ sym (map_push {B = ℕ × F} (λ m. (m, h m)) (take n s) (slice_index s n))
    ∙ ap (map {B = ℕ × F} (λ m. (m, h m))) (sym (take_more s n 0 (omega arith)) ∙ ap (λ k. take k s) more)

-- no error stands behind the erasures
pub erased_listing : {F : Type 0} (f : Ops F) (w count : ℕ) (s : List ℕ) (listing : List (ℕ × F)) → locations listing ≡ s → length s ≤ count → IsCandidate f w s count listing
erased_listing f w count s listing whole few = record {
  errors = [];
  are_errors = record { in_order = tt; below = tt; outside = tt; few = omega arith };
  placed = whole ∙ sym (append-nil s);
  values = subst (AllByRecursion (λ p. p.1 ≢ f.zero)) (sym none) tt;
}
  where
    none : drop (length s) listing ≡ []
    none = drop_all (length s) listing (omega (arith, length-locations listing, ap length whole))

pub only_erased : {F : Type 0} (f : Ops F) (w count : ℕ) (s : List ℕ) (value : ℕ → F) → length s ≤ count → IsCandidate f w s count (placed s value (length s))
only_erased f w count s value few =
    erased_listing f w count s (placed s value (length s)) (locations-placed s value (length s) (omega arith) ∙ take_all (length s) s (omega arith)) few

-- ---- patterns without errors outside the erasures

pub either : (b : Bool) → (b ≡ true) ⊎ (b ≡ false)
either true = inl refl
either false = inr refl

pub inside_of : {F : Type 0} (s : List ℕ) (e : List (ℕ × F)) → errors_outside s e ≡ 0 → AllByRecursion (λ (p : ℕ × F). IsAmong p.0 s) e
inside_of s [] none = tt
inside_of s (p ∷ e) none = elim (either (has s p.0)) [
  | inl t ↦ (has-true s p.0 t, inside_of s e (sym (ap (λ b. cond b (errors_outside s e) (suc (errors_outside s e))) t) ∙ none))
  | inr n ↦ (
      let e : suc (errors_outside s e) ≡ 0 = sym (ap (λ b. cond b (errors_outside s e) (suc (errors_outside s e))) n) ∙ none in
      absurd (omega (arith, e))
      )
]

module _ {F : Type 0} {f : Ops F} (fl : IsField f) where
  -- such a pattern is that of the erasures with its values
  pub same_value : (s : List ℕ) (e : List (ℕ × F)) → IsOnce s → AllByRecursion (λ (p : ℕ × F). IsAmong p.0 s) e → (i : ℕ)
      → value_of_pattern_at f (map (λ m. (m, value_of_pattern_at f e m)) s) i ≡ value_of_pattern_at f e i
  same_value s e once all i = elim (mem_or_not i s) [
    | inl m ↦ at_listed fl (value_of_pattern_at f e) s i once m
    | inr n ↦
        at_absent fl (map (λ m. (m, value_of_pattern_at f e m)) s) i (λ m. n (subst (IsAmong i) (locations_listed (value_of_pattern_at f e) s) m))
        ∙ sym (at-outside fl e i s all n)
  ]

  pub erased_pattern : (g residue : List F) (s : List ℕ) (w count : ℕ) (e : List (ℕ × F)) → AreErasures w s → count < length s + 2 → Solves f g residue s w count e
      → HasRemainder f g residue (placed s (λ i. value_of_pattern_at f e (slice_index s i)) (length s))
  erased_pattern g residue s w count e erased full h = left_over fl g residue pattern (λ i. ap (λ u. coefficient f u i) same ∙ remainder_left fl g residue e h.remainder i)
    where
      pattern : List (ℕ × F)
      pattern = placed s (λ i. value_of_pattern_at f e (slice_index s i)) (length s)

      listed : pattern ≡ map (λ m. (m, value_of_pattern_at f e m)) s
      listed =
          placed-map s (value_of_pattern_at f e) (length s) (omega arith)
          ∙ ap (map {B = ℕ × F} (λ m. (m, value_of_pattern_at f e m))) (take_all (length s) s (omega arith))

      none : errors_outside s e ≡ 0
      none = let few : 2 * errors_outside s e + length s ≤ count = h.few in omega (arith, few, full)

      same : remainder_of f g (pattern_polynomial f pattern) ≡ remainder_of f g (pattern_polynomial f e)
      same = remainder_of-pattern fl g pattern e (λ i. ap (λ u. value_of_pattern_at f u i) listed ∙ same_value s e erased.once (inside_of s e none) i)

  -- ---- the equations

  pattern_polynomial-append : (e e' : List (ℕ × F)) → pattern_polynomial f (e ++ e') ≡ add f (pattern_polynomial f e) (pattern_polynomial f e')
  pattern_polynomial-append [] e' = refl
  pattern_polynomial-append (p ∷ e) e' =
      ap (add f (monomial f p.0 p.1)) (pattern_polynomial-append e e') ∙ sym (add_assoc fl (monomial f p.0 p.1) (pattern_polynomial f e) (pattern_polynomial f e'))

  -- the remainder of the power of x at a location
  abbrev pub power_row : List F → ℕ → List F
  power_row g i = remainder_of f g (monomial f i f.one)

  pub remainder-placed : (g : List F) (s : List ℕ) (value : ℕ → F) (n place : ℕ)
      → coefficient f (remainder_of f g (pattern_polynomial f (placed s value n))) place ≡ weighted f value (λ i. coefficient f (power_row g (slice_index s i)) place) n
  remainder-placed g s value zero place = coefficient-zeros fl (length g) place
  remainder-placed g s value (suc n) place =
      ap (λ u. coefficient f (remainder_of f g u) place) (pattern_polynomial-append (placed s value n) ((slice_index s n, value n) ∷ []))
      ∙ ap (λ u. coefficient f u place) (remainder_of-add fl g (pattern_polynomial f (placed s value n)) (pattern_polynomial f ((slice_index s n, value n) ∷ [])))
      ∙ coefficient-add fl (remainder_of f g (pattern_polynomial f (placed s value n))) (remainder_of f g (pattern_polynomial f ((slice_index s n, value n) ∷ []))) place
      ∙ ap (λ x. f.add x (coefficient f (remainder_of f g (pattern_polynomial f ((slice_index s n, value n) ∷ []))) place)) (remainder-placed g s value n place)
      ∙ ap (f.add (weighted f value (λ i. coefficient f (power_row g (slice_index s i)) place) n))
      (ap (λ u. coefficient f u place) (remainder_of-single fl g (slice_index s n) (value n) (power_row g (slice_index s n)) (remainder_exists fl g (monomial f (slice_index s n) f.one)))
      ∙ coefficient-scale fl (value n) (power_row g (slice_index s n)) place)

  behind : (p : List F) (n : ℕ) → length p ≤ n → coefficient f p n ≡ f.zero
  behind [] n h = refl
  behind (a ∷ p) zero h = absurd (omega arith)
  behind (a ∷ p) (suc n) h = behind p n (omega arith)

  -- one, and the values behind it
  abbrev pub behind_one : (ℕ → F) → ℕ → F
  behind_one value zero = f.one
  behind_one value (suc i) = value i

  module _ (same : (x : F) → f.neg x ≡ x) (g residue : List F) (s : List ℕ) (table : ℕ → ℕ → F) (size : ℕ) (degree : length g ≡ size)
      (ends : (n : ℕ) → size ≤ n → coefficient f residue n ≡ f.zero)
      (first : (place : ℕ) → place < length g → table 0 place ≡ coefficient f residue place)
      (others : (i place : ℕ) → i < length s → place < length g → table (suc i) place ≡ coefficient f (power_row g (slice_index s i)) place) where
    -- the sum of the rows, where the first one has the value one
    whole_sum : (value : ℕ → F) → value 0 ≡ f.one → (place : ℕ) → place < size
        → weighted f value (λ i. table i place) (suc (length s))
        ≡ f.add (coefficient f residue place) (coefficient f (remainder_of f g (pattern_polynomial f (placed s (λ i. value (suc i)) (length s)))) place)
    whole_sum value one place less =
        weighted-first fl value (λ i. table i place) (length s)
        ∙ ap (λ x. f.add x (weighted f (λ i. value (suc i)) (λ i. table (suc i) place) (length s)))
        (ap (λ v. f.mul v (table 0 place)) one ∙ one_mul fl (table 0 place) ∙ first place (omega (arith, degree)))
        ∙ ap (f.add (coefficient f residue place))
        (weighted-terms fl (λ i. value (suc i)) (λ i. table (suc i) place) (λ i. coefficient f (power_row g (slice_index s i)) place) (length s) (λ i k. others i place k (omega (arith, degree)))
        ∙ sym (remainder-placed g s (λ i. value (suc i)) (length s) place))

    pub solved : (value : ℕ → F) → value 0 ≡ f.one → AreCancelled f table (suc (length s)) size value → HasRemainder f g residue (placed s (λ i. value (suc i)) (length s))
    solved value one h = left_over fl g residue (placed s (λ i. value (suc i)) (length s)) (λ n. elim (dec_lt n size) [
      | yes less ↦ neg_unique fl (coefficient f residue n) _ (sym (whole_sum value one n less) ∙ h n less) ∙ same (coefficient f residue n)
      | no past ↦
          behind (remainder_of f g (pattern_polynomial f (placed s (λ i. value (suc i)) (length s)))) n
          (omega (arith, length-remainder_of fl g (pattern_polynomial f (placed s (λ i. value (suc i)) (length s))), degree))
          ∙ sym (ends n (omega arith))
    ])

    cancelled : (x y : F) → y ≡ x → f.add x y ≡ f.zero
    cancelled x y e = ap (f.add x) (e ∙ sym (same x)) ∙ fl.add_neg x

    pub solves : (value : ℕ → F) → HasRemainder f g residue (placed s value (length s)) → AreCancelled f table (suc (length s)) size (behind_one value)
    solves value h place less =
        whole_sum (behind_one value) refl place less
        ∙ cancelled (coefficient f residue place) _ (remainder_left fl g residue (placed s value (length s)) h place)
