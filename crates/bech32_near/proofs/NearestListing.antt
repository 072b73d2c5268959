-- Listings with an error at the highest location.
use Rattle.std.specs.Prelude.{◌==◌, ◌≢◌, Bool, true, false, cond}
use Rattle.std.specs.List.{AllByRecursion}
use Rattle.std.proofs.Common.{◌≡◌, ℕ, suc, ◌<◌, ◌≤◌, List, [], ◌∷◌, ◌++◌, length, take, ◌⊎◌, inl, inr, subst, sym, ap, ◌∙◌, refl, arith}
use Rattle.std.proofs.lemmas.Bool.Decides.{eqb_tells}
use Rattle.bech32_gf.specs.Field.{Ops, IsField}
use Rattle.bech32_gf.specs.laws.Ring.{ring}
use Rattle.bech32_poly.specs.Distinct.{IsAmong}
use Rattle.bech32_poly.specs.Division.{remainder_of}
use Rattle.bech32_poly.specs.Pattern.{pattern_polynomial, value_of_pattern_at}
use Rattle.bech32_poly.specs.Polynomial.{coefficient}
use Rattle.bech32_poly.proofs.PatternSums.{remainder_of-pattern}
use Rattle.bech32_poly.proofs.Remainder.{remainder_exists, remainder_unique}
use Rattle.bech32_bch.specs.Listing.{ComesBefore, IsInOrder}
use Rattle.bech32_bch.specs.Pattern.{HasRemainder, locations}
use Rattle.bech32_bch.proofs.Alone.{mem_or_not}
use Rattle.bech32_bch.proofs.Patterns.{at_absent}
use Rattle.bech32_bch.proofs.Places.{locations-append, look, mem_split}
use Rattle.bech32_near.specs.search.Nearest.{IsEarlier}
use Rattle.bech32_near.specs.search.Steps.{HasHighest, HasHighestAt, IsOtherError, IsGathered, with_highest}

pub all_weaker : {A : Type 0} (P Q : A → Type 0) (xs : List A) → ((x : A) → P x → Q x) → AllByRecursion P xs → AllByRecursion Q xs
all_weaker P Q [] h a = tt
all_weaker P Q (x ∷ xs) h a = (h x a.0, all_weaker P Q xs h a.1)

pub each_location : {F : Type 0} (P : ℕ → Type 0) (xs : List (ℕ × F)) → AllByRecursion (λ (q : ℕ × F). P q.0) xs → AllByRecursion P (locations xs)
each_location P [] h = tt
each_location P (x ∷ xs) h = (h.0, each_location P xs h.1)

pub take_first : {A : Type 0} (xs ys : List A) → take (length xs) (xs ++ ys) ≡ xs
take_first [] [] = refl
take_first [] (y ∷ ys) = refl
take_first (x ∷ xs) ys = ap (λ u. x ∷ u) (take_first xs ys)

pub length-placed : {F : Type 0} (xs : List (ℕ × F)) (s : List ℕ) → locations xs ≡ s → length xs ≡ length s
length-placed {F = F} xs s e = length_of xs ∙ ap (λ u. length u) e
  where
    length_of : (ys : List (ℕ × F)) → length ys ≡ length (locations ys)
    length_of [] = refl
    length_of (y ∷ ys) = ap suc (length_of ys)

-- of an error that comes before another, and is no higher than the highest location
before_highest : (i location : ℕ) → ComesBefore i location → i ≤ location → i ≡ 0
before_highest i location h low = elim h.1 [ inl z ↦ z | inr k ↦ absurd (omega arith) ]

after_highest : (location j : ℕ) → ComesBefore location j → j ≤ location → j < location
after_highest location j h low = elim h.1 [
  | inl z ↦ (let some : 0 < j = h.0 in absurd (omega arith))
  | inr k ↦ k
]

eqb_no : (i : ℕ) → 0 < i → (i == 0) ≡ false
eqb_no i h = elim (eqb_tells i 0) [ inl y ↦ (let z : i ≡ 0 = y.1 in absurd (omega arith)) | inr y ↦ y.0 ]

eqb_yes : (i : ℕ) → i ≡ 0 → (i == 0) ≡ true
eqb_yes i h = elim (eqb_tells i 0) [ inl y ↦ y.0 | inr y ↦ absurd (y.1 h) ]

module _ {F : Type 0} (f : Ops F) (s : List ℕ) where
  pub each_below : (limit : ℕ) (errors : List (ℕ × F)) → AllByRecursion (IsOtherError f s limit) errors → AllByRecursion (λ (q : ℕ × F). q.0 < limit) errors
  each_below limit [] a = tt
  each_below limit (q ∷ errors) a = (a.0.below, each_below limit errors a.1)

  pub located_below : (limit : ℕ) (errors : List (ℕ × F)) → AllByRecursion (IsOtherError f s limit) errors → AllByRecursion (λ i. i < limit) (locations errors)
  located_below limit [] a = tt
  located_below limit (q ∷ errors) a = (a.0.below, located_below limit errors a.1)

  pub located_outside : (limit : ℕ) (errors : List (ℕ × F)) → AllByRecursion (IsOtherError f s limit) errors → AllByRecursion (λ i. IsAmong i s → ⊥) (locations errors)
  located_outside limit [] a = tt
  located_outside limit (q ∷ errors) a = (a.0.outside, located_outside limit errors a.1)

  pub each_higher : (limit limit' : ℕ) (errors : List (ℕ × F)) → limit ≤ limit' → AllByRecursion (IsOtherError f s limit) errors → AllByRecursion (IsOtherError f s limit') errors
  each_higher limit limit' [] h a = tt
  each_higher limit limit' (q ∷ errors) h a =
      let low : q.0 < limit = a.0.below in
      (record { below = omega arith; outside = a.0.outside; not_zero = a.0.not_zero }, each_higher limit limit' errors h a.1)

  pub each_lower : (limit limit' : ℕ) (errors : List (ℕ × F)) → AllByRecursion (λ (q : ℕ × F). q.0 < limit') errors → AllByRecursion (IsOtherError f s limit) errors → AllByRecursion (IsOtherError f s limit') errors
  each_lower limit limit' [] b a = tt
  each_lower limit limit' (q ∷ errors) b a = (record { below = b.0; outside = a.0.outside; not_zero = a.0.not_zero }, each_lower limit limit' errors b.1 a.1)

module _ {F : Type 0} {f : Ops F} (fl : IsField f) where
  pair_eta : (q : ℕ × F) (location : ℕ) → q.0 ≡ location → q ≡ (location, q.1)
  pair_eta q location e = ap (λ i. (i, q.1)) e

  -- errors of which the highest is taken out
  pub record TakenOut (s : List ℕ) (location : ℕ) (errors : List (ℕ × F)) : Type 0 where
    pub value : F
    pub rest : List (ℕ × F)
    pub is : errors ≡ with_highest (location, value) rest
    pub not_zero : value ≢ f.zero
    pub in_order : IsInOrder (locations rest)
    pub each : AllByRecursion (IsOtherError f s location) rest
    pub few : length errors ≡ suc (length rest)

  -- all behind the highest are below it
  lower_rest : (s : List ℕ) (location : ℕ) (rest : List (ℕ × F)) → AllByRecursion (λ j. ComesBefore location j) (locations rest) → AllByRecursion (IsOtherError f s (suc location)) rest → AllByRecursion (IsOtherError f s location) rest
  lower_rest s location [] o e = tt
  lower_rest s location (q ∷ rest) o e =
      let low : q.0 < suc location = e.0.below in
      (record { below = after_highest location q.0 o.0 (omega arith); outside = e.0.outside; not_zero = e.0.not_zero }, lower_rest s location rest o.1 e.1)

  positive_behind : (i : ℕ) (rest : List ℕ) → AllByRecursion (λ j. ComesBefore i j) rest → AllByRecursion (λ j. 0 < j) rest
  positive_behind i [] h = tt
  positive_behind i (j ∷ rest) h = (h.0.0, positive_behind i rest h.1)

  first_of : (x : ℕ × F) (rest : List (ℕ × F)) → AllByRecursion (λ j. 0 < j) (locations rest) → x ∷ rest ≡ with_highest x rest
  first_of x [] h = refl
  first_of x (q ∷ rest) h = ap (λ b. cond b (q ∷ x ∷ rest) (x ∷ q ∷ rest)) (sym (eqb_no q.0 h.0))

  taken_first : (s : List ℕ) (location : ℕ) (q : ℕ × F) (rest : List (ℕ × F)) → q.0 ≡ location → IsInOrder (locations (q ∷ rest)) → AllByRecursion (IsOtherError f s (suc location)) (q ∷ rest) → TakenOut s location (q ∷ rest)
  taken_first s location q rest e o a = record {
    value = q.1;
    rest = rest;
    is = ap (λ x. x ∷ rest) (pair_eta q location e) ∙ first_of (location, q.1) rest (positive_behind q.0 (locations rest) o.0);
    not_zero = a.0.not_zero;
    in_order = o.1;
    each = lower_rest s location rest (subst (λ i. AllByRecursion (λ j. ComesBefore i j) (locations rest)) e o.0) a.1;
    few = refl;
  }

  taken_second : (s : List ℕ) (location : ℕ) (q n : ℕ × F) (rest : List (ℕ × F)) → q.0 ≡ 0 → 0 < location → n.0 ≡ location → IsInOrder (locations (q ∷ n ∷ rest)) → AllByRecursion (IsOtherError f s (suc location)) (q ∷ n ∷ rest)
      → TakenOut s location (q ∷ n ∷ rest)
  taken_second s location q n rest z some e o a = record {
    value = n.1;
    rest = q ∷ rest;
    is = ap (λ x. q ∷ x ∷ rest) (pair_eta n location e) ∙ ap (λ b. cond b (q ∷ (location, n.1) ∷ rest) ((location, n.1) ∷ q ∷ rest)) (sym (eqb_yes q.0 z));
    not_zero = a.1.0.not_zero;
    in_order = (o.0.1, o.1.1);
    each = (record { below = omega (arith, z, some); outside = a.0.outside; not_zero = a.0.not_zero }, lower_rest s location rest (subst (λ i. AllByRecursion (λ j. ComesBefore i j) (locations rest)) e o.1.0) a.1.1);
    few = refl;
  }

  -- errors of which one is at the highest location
  pub taken_out : (s : List ℕ) (location : ℕ) (errors : List (ℕ × F)) → IsInOrder (locations errors) → AllByRecursion (IsOtherError f s (suc location)) errors → IsAmong location (locations errors) → TakenOut s location errors
  taken_out s location [] o a m = absurd m
  taken_out s location (q ∷ rest) o a (inl e) = taken_first s location q rest (sym e) o a
  taken_out s location (q ∷ rest) o a (inr m) = second rest m o a
    where
      second : (rest : List (ℕ × F)) → IsAmong location (locations rest) → IsInOrder (locations (q ∷ rest)) → AllByRecursion (IsOtherError f s (suc location)) (q ∷ rest) → TakenOut s location (q ∷ rest)
      second [] m o a = absurd m
      second (n ∷ rest) (inl e) o a =
          let h : ComesBefore q.0 location = subst (ComesBefore q.0) (sym e) o.0.0 in
          taken_second s location q n rest (before_highest q.0 location h (omega (arith, a.0.below))) h.0 (sym e) o a
      second (n ∷ rest) (inr m) o a =
          let h : ComesBefore n.0 location = look (ComesBefore n.0) location (locations rest) o.1.0 m in
          let some : 0 < n.0 = o.0.0.0 in
          let none : n.0 ≡ 0 = before_highest n.0 location h (omega (arith, a.1.0.below)) in
          absurd (omega arith)

  before_all : (s : List ℕ) (location : ℕ) (rest : List (ℕ × F)) → AllByRecursion (λ j. 0 < j) (locations rest) → AllByRecursion (IsOtherError f s location) rest → AllByRecursion (λ j. ComesBefore location j) (locations rest)
  before_all s location [] h a = tt
  before_all s location (q ∷ rest) h a = ((h.0, inr a.0.below), before_all s location rest h.1 a.1)

  -- the order of a listing with the highest error put in
  pub put_in_order : (s : List ℕ) (x : ℕ × F) (rest : List (ℕ × F)) → IsInOrder (locations rest) → AllByRecursion (IsOtherError f s x.0) rest → IsInOrder (locations (with_highest x rest))
  put_in_order s x [] o a = (tt, tt)
  put_in_order s x (q ∷ rest) o a = step (eqb_tells q.0 0)
    where
      behind : AllByRecursion (λ j. 0 < j) (locations rest)
      behind = positive_behind q.0 (locations rest) o.0

      below : q.0 < x.0
      below = a.0.below

      first : q.0 ≡ 0 → IsInOrder (locations (q ∷ x ∷ rest))
      first z = (((omega (arith, below), inl z), o.0), (before_all s x.0 rest behind a.1, o.1))

      apart : q.0 ≢ 0 → 0 < q.0
      apart n = omega arith

      second : q.0 ≢ 0 → IsInOrder (locations (x ∷ q ∷ rest))
      second n = (((apart n, inr below), before_all s x.0 rest behind a.1), o)

      step : ((q.0 == 0) ≡ true × (q.0 ≡ 0)) ⊎ ((q.0 == 0) ≡ false × (q.0 ≢ 0)) → IsInOrder (locations (cond (q.0 == 0) (q ∷ x ∷ rest) (x ∷ q ∷ rest)))
      step (inl y) = subst (λ b. IsInOrder (locations (cond b (q ∷ x ∷ rest) (x ∷ q ∷ rest)))) (sym y.0) (first y.1)
      step (inr y) = subst (λ b. IsInOrder (locations (cond b (q ∷ x ∷ rest) (x ∷ q ∷ rest)))) (sym y.0) (second y.1)

  pub put_all : (P : ℕ × F → Type 0) (x : ℕ × F) (rest : List (ℕ × F)) → P x → AllByRecursion P rest → AllByRecursion P (with_highest x rest)
  put_all P x [] p a = (p, tt)
  put_all P x (q ∷ rest) p a = step (q.0 == 0)
    where
      step : (b : Bool) → AllByRecursion P (cond b (q ∷ x ∷ rest) (x ∷ q ∷ rest))
      step true = (a.0, (p, a.1))
      step false = (p, a)

  pub length-put : (x : ℕ × F) (rest : List (ℕ × F)) → length (with_highest x rest) ≡ suc (length rest)
  length-put x [] = refl
  length-put x (q ∷ rest) = step (q.0 == 0)
    where
      step : (b : Bool) → length (cond b (q ∷ x ∷ rest) (x ∷ q ∷ rest)) ≡ suc (suc (length rest))
      step true = refl
      step false = refl

  swapped : (a b c : F) → f.add a (f.add b c) ≡ f.add b (f.add a c)
  swapped a b c = simp (ring, fl)

  no_first : (b : F) → b ≡ f.add f.zero b
  no_first b = simp (ring, fl)

  grouped : (a b c u : F) → u ≡ f.add b c → f.add a u ≡ f.add (f.add a b) c
  grouped a b c u e = rw e (simp (ring, fl))

  -- the values of a listing are those of its parts
  pub at-append : (a b : List (ℕ × F)) (i : ℕ) → value_of_pattern_at f (a ++ b) i ≡ f.add (value_of_pattern_at f a i) (value_of_pattern_at f b i)
  at-append [] b i = no_first (value_of_pattern_at f b i)
  at-append (p ∷ a) b i = grouped (cond (p.0 == i) p.1 f.zero) (value_of_pattern_at f a i) (value_of_pattern_at f b i) _ (at-append a b i)

  pub at-put : (x : ℕ × F) (rest : List (ℕ × F)) (i : ℕ) → value_of_pattern_at f (with_highest x rest) i ≡ value_of_pattern_at f (x ∷ rest) i
  at-put x [] i = refl
  at-put x (q ∷ rest) i = step (q.0 == 0)
    where
      step : (b : Bool) → value_of_pattern_at f (cond b (q ∷ x ∷ rest) (x ∷ q ∷ rest)) i ≡ value_of_pattern_at f (x ∷ q ∷ rest) i
      step true = swapped (cond (q.0 == i) q.1 f.zero) (cond (x.0 == i) x.1 f.zero) (value_of_pattern_at f rest i)
      step false = refl

  -- the highest error before all else
  pub at-highest : (x : ℕ × F) (given rest : List (ℕ × F)) (i : ℕ) → value_of_pattern_at f (given ++ with_highest x rest) i ≡ value_of_pattern_at f (x ∷ (given ++ rest)) i
  at-highest x given rest i =
      at-append given (with_highest x rest) i
      ∙ ap (f.add (value_of_pattern_at f given i)) (at-put x rest i)
      ∙ swapped (value_of_pattern_at f given i) (cond (x.0 == i) x.1 f.zero) (value_of_pattern_at f rest i)
      ∙ ap (f.add (cond (x.0 == i) x.1 f.zero)) (sym (at-append given rest i))

  -- the highest error behind the erasures
  pub at-erased : (x : ℕ × F) (given rest : List (ℕ × F)) (i : ℕ) → value_of_pattern_at f (given ++ with_highest x rest) i ≡ value_of_pattern_at f ((given ++ (x ∷ [])) ++ rest) i
  at-erased x given rest i =
      at-append given (with_highest x rest) i
      ∙ ap (f.add (value_of_pattern_at f given i)) (at-put x rest i ∙ at-append (x ∷ []) rest i)
      ∙ grouped (value_of_pattern_at f given i) (value_of_pattern_at f (x ∷ []) i) (value_of_pattern_at f rest i) _ refl
      ∙ ap (λ u. f.add u (value_of_pattern_at f rest i)) (sym (at-append given (x ∷ []) i))
      ∙ sym (at-append (given ++ (x ∷ [])) rest i)

  -- patterns of the same values leave the same
  pub same_remains : (g residue : List F) (e e' : List (ℕ × F)) → ((i : ℕ) → value_of_pattern_at f e i ≡ value_of_pattern_at f e' i) → HasRemainder f g residue e → HasRemainder f g residue e'
  same_remains g residue e e' h r = (
    remainder_of f g (pattern_polynomial f e'),
    remainder_exists fl g (pattern_polynomial f e'),
    λ i. ap (λ u. coefficient f u i) (sym (remainder_of-pattern fl g e e' h) ∙ sym (remainder_unique fl g (pattern_polynomial f e) r.0 r.1)) ∙ r.2 i,
  )

  not_located : (s : List ℕ) (limit : ℕ) (given errors : List (ℕ × F)) (i : ℕ) → locations given ≡ s → AllByRecursion (IsOtherError f s limit) errors → limit ≤ i → (IsAmong i s → ⊥) → IsAmong i (locations (given ++ errors)) → ⊥
  not_located s limit given errors i placed each high out m =
      elim (mem_split i (locations given) (locations errors) (subst (IsAmong i) (locations-append given errors) m)) [
        | inl k ↦ out (subst (IsAmong i) placed k)
        | inr k ↦ (let low : i < limit = look (λ j. j < limit) i (locations errors) (located_below f s limit errors each) k in absurd (omega arith))
      ]

  -- nothing stands outside the erasures from the limit on
  pub nothing_above : (s : List ℕ) (limit : ℕ) (given errors : List (ℕ × F)) (i : ℕ) → locations given ≡ s → AllByRecursion (IsOtherError f s limit) errors → limit ≤ i → (IsAmong i s → ⊥)
      → value_of_pattern_at f (given ++ errors) i ≡ f.zero
  nothing_above s limit given errors i placed each high out = at_absent fl (given ++ errors) i (not_located s limit given errors i placed each high out)

  plus_zero : (v u : F) → u ≡ f.zero → f.add v u ≡ v
  plus_zero v u e = rw e (simp (ring, fl))

  zero_plus : (v u : F) → v ≡ f.zero → f.add v u ≡ u
  zero_plus v u e = rw e (simp (ring, fl))

  own_place : (i : ℕ) (v : F) → cond (i == i) v f.zero ≡ v
  own_place i v = elim (eqb_tells i i) [ inl y ↦ ap (λ b. cond b v f.zero) y.0 | inr y ↦ absurd (y.1 refl) ]

  other_place : (i j : ℕ) (v : F) → i ≢ j → cond (i == j) v f.zero ≡ f.zero
  other_place i j v n = elim (eqb_tells i j) [ inl y ↦ absurd (n y.1) | inr y ↦ ap (λ b. cond b v f.zero) y.0 ]

  module _ (g residue : List F) (s : List ℕ) where
    pub gathered_above : (limit most : ℕ) (items : List (ℕ × F)) (i : ℕ) → IsGathered f g residue s limit most items → limit ≤ i → (IsAmong i s → ⊥) → value_of_pattern_at f items i ≡ f.zero
    gathered_above limit most items i h high out = ap (λ u. value_of_pattern_at f u i) h.parts ∙ nothing_above s limit h.given h.errors i h.placed h.each high out

    pub highest_at : (x : ℕ × F) (others : ℕ) (items : List (ℕ × F)) → HasHighest f g residue s x others items → value_of_pattern_at f items x.0 ≡ x.1
    highest_at x others items h =
        ap (λ u. value_of_pattern_at f u x.0) h.parts
        ∙ at-highest x h.given h.rest x.0
        ∙ plus_zero (cond (x.0 == x.0) x.1 f.zero) _ (nothing_above s x.0 h.given h.rest x.0 h.placed h.each (omega arith) h.outside)
        ∙ own_place x.0 x.1

    pub highest_above : (x : ℕ × F) (others : ℕ) (items : List (ℕ × F)) (i : ℕ) → HasHighest f g residue s x others items → x.0 < i → (IsAmong i s → ⊥) → value_of_pattern_at f items i ≡ f.zero
    highest_above x others items i h high out =
        ap (λ u. value_of_pattern_at f u i) h.parts
        ∙ at-highest x h.given h.rest i
        ∙ zero_plus (cond (x.0 == i) x.1 f.zero) _ (other_place x.0 i x.1 (λ e. omega (arith, high, e)))
        ∙ nothing_above s x.0 h.given h.rest i h.placed h.each (omega arith) out

    -- one with this highest error is below the next limit
    pub highest_gathered : (x : ℕ × F) (others : ℕ) (items : List (ℕ × F)) → HasHighest f g residue s x others items → IsGathered f g residue s (suc x.0) (suc others) items
    highest_gathered x others items h = record {
      given = h.given;
      errors = with_highest x h.rest;
      parts = h.parts;
      placed = h.placed;
      in_order = put_in_order s x h.rest h.in_order h.each;
      each = put_all (IsOtherError f s (suc x.0)) x h.rest (record { below = omega arith; outside = h.outside; not_zero = h.not_zero }) (each_higher f s x.0 (suc x.0) h.rest (omega arith) h.each);
      few = omega (arith, length-put x h.rest, h.few);
      remainder = h.remainder;
    }

    pub lower_gathered : (limit limit' most most' : ℕ) (items : List (ℕ × F)) → limit ≤ limit' → most ≤ most' → IsGathered f g residue s limit most items → IsGathered f g residue s limit' most' items
    lower_gathered limit limit' most most' items higher more h = record {
      given = h.given;
      errors = h.errors;
      parts = h.parts;
      placed = h.placed;
      in_order = h.in_order;
      each = each_higher f s limit limit' h.errors higher h.each;
      few = omega (arith, more, h.few);
      remainder = h.remainder;
    }

    not_highest : (location : ℕ) (errors : List (ℕ × F)) → (IsAmong location (locations errors) → ⊥) → AllByRecursion (IsOtherError f s (suc location)) errors → AllByRecursion (IsOtherError f s location) errors
    not_highest location [] n a = tt
    not_highest location (q ∷ errors) n a =
        let low : q.0 < suc location = a.0.below in
        let other : q.0 ≢ location = λ e. n (inl (sym e)) in
        (record { below = omega arith; outside = a.0.outside; not_zero = a.0.not_zero }, not_highest location errors (λ m. n (inr m)) a.1)

    -- below the next limit the highest error is at the location, or below it
    pub split : (location others : ℕ) (items : List (ℕ × F)) → IsGathered f g residue s (suc location) (suc others) items → IsGathered f g residue s location (suc others) items ⊎ HasHighestAt f g residue s location others items
    split location others items h = elim (mem_or_not location (locations h.errors)) [
      | inl m ↦ inr (highest (taken_out s location h.errors h.in_order h.each m) m)
      | inr n ↦ inl (record {
        given = h.given;
        errors = h.errors;
        parts = h.parts;
        placed = h.placed;
        in_order = h.in_order;
        each = not_highest location h.errors n h.each;
        few = h.few;
        remainder = h.remainder;
      })
    ]
      where
        highest : TakenOut s location h.errors → IsAmong location (locations h.errors) → HasHighestAt f g residue s location others items
        highest t m = (
          t.value,
          record {
            given = h.given;
            rest = t.rest;
            parts = h.parts ∙ ap (λ u. h.given ++ u) t.is;
            placed = h.placed;
            outside = look (λ j. IsAmong j s → ⊥) location (locations h.errors) (located_outside f s (suc location) h.errors h.each) m;
            not_zero = t.not_zero;
            in_order = t.in_order;
            each = t.each;
            few = omega (arith, h.few, t.few);
            remainder = h.remainder;
          },
        )

    no_errors_below : (errors : List (ℕ × F)) → AllByRecursion (IsOtherError f s 0) errors → length errors ≤ 0
    no_errors_below [] a = omega arith
    no_errors_below (q ∷ errors) a = absurd (omega (arith, a.0.below))

    -- below location 0 there are no errors
    pub none_gathered : (most : ℕ) (items : List (ℕ × F)) → IsGathered f g residue s 0 most items → IsGathered f g residue s 0 0 items
    none_gathered most items h = record {
      given = h.given;
      errors = h.errors;
      parts = h.parts;
      placed = h.placed;
      in_order = h.in_order;
      each = h.each;
      few = no_errors_below h.errors h.each;
      remainder = h.remainder;
    }

  module _ (rank : F → ℕ) (lowest : (x : F) → x ≢ f.zero → rank f.zero < rank x) (g residue : List F) (s : List ℕ) where
    -- without an error at the location it is earlier
    pub lower_earlier : (location most others : ℕ) (e e' : List (ℕ × F)) → IsGathered f g residue s location most e → HasHighestAt f g residue s location others e' → IsEarlier f rank s e e'
    lower_earlier location most others e e' h (v, k) = record {
      location = location;
      outside = k.outside;
      same_above = λ i high out. gathered_above g residue s location most e i h (omega arith) out ∙ sym (highest_above g residue s (location, v) others e' i k high out);
      lower = subst (λ u. rank u < rank (value_of_pattern_at f e' location)) (sym (gathered_above g residue s location most e location h (omega arith) k.outside))
          (subst (λ u. rank f.zero < rank u) (sym (highest_at g residue s (location, v) others e' k)) (lowest v k.not_zero));
    }

    -- with a lower value at the location it is earlier
    pub value_earlier : (location others : ℕ) (v v' : F) (e e' : List (ℕ × F)) → rank v < rank v' → HasHighest f g residue s (location, v) others e → HasHighest f g residue s (location, v') others e' → IsEarlier f rank s e e'
    value_earlier location others v v' e e' less h k = record {
      location = location;
      outside = k.outside;
      same_above = λ i high out. highest_above g residue s (location, v) others e i h high out ∙ sym (highest_above g residue s (location, v') others e' i k high out);
      lower = subst (λ u. rank u < rank (value_of_pattern_at f e' location)) (sym (highest_at g residue s (location, v) others e h))
          (subst (λ u. rank v < rank u) (sym (highest_at g residue s (location, v') others e' k)) less);
    }
