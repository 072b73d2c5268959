-- What the steps of a search for the nearest patterns rest on.
use Rattle.std.specs.Prelude.{◌≢◌, ◌↔◌, IfOk, IsOk, IsTrue, OnOk, Result, Ok, Err, Option, Some, None, Bool, true, false, cond, min}
use Rattle.std.specs.List.{AllByRecursion}
use Rattle.std.proofs.Common.{◌≡◌, ℕ, zero, suc, ◌+◌, ◌*◌, ◌<◌, ◌≤◌, List, [], ◌∷◌, ◌++◌, map, take, drop, length, inl, inr, subst, sym, ap, ◌∙◌, refl, arith, length-take}
use Rattle.std.proofs.Math.Decide.{dec_lt}
use Rattle.std.proofs.lemmas.Bool.Decides.{eqb_tells}
use Rattle.std.proofs.lemmas.List.{length-append}
use Rattle.bech32_gf.specs.Fe32 as fe32
use Rattle.bech32_gf.specs.Field.{Ops}
use Rattle.bech32_gf.specs.declared.gf32.Fe32.{Fe32}
use Rattle.bech32_gf.specs.laws.Fe32Laws.{is_field}
use Rattle.bech32_poly.specs.Distinct.{IsAmong}
use Rattle.bech32_bch.specs.Erasures.{AreErasures, has, with_erasures}
use Rattle.bech32_checksum.specs.Code.{Code}
use Rattle.bech32_lookup.specs.TakenOff.{IsTakenOff}
use Rattle.bech32_bch.specs.Detection.{DetectsFour}
use Rattle.bech32_near.specs.search.Nearest.{AreNearest, IsEarlier}
use Rattle.bech32_near.specs.search.Steps.{AreAdded, AreAll, CanBeHighest, HasHighest, HasHighestAt, IsErasedAnswer, IsGathered, IsTried, raised, with_highest}
use Rattle.bech32_lookup.specs.Question.{IsAnswerTo, Question}
use Rattle.bech32_lookup.proofs.Added.{erasures_more, with_erasures-append}
use Rattle.bech32_correction.specs.Given.{IsAnswerWith, up_to, with_given}
use Rattle.bech32_correction.proofs.Different.{erasures_are}
use Rattle.bech32_bch.proofs.Places.{all_push}
use Rattle.bech32_near.proofs.NearestAdded.{IsAnswer, erased_none, erased_not, erased_one, erasures_first, with_value}
use Rattle.bech32_near.proofs.NearestAlone.{at_most_one}
use Rattle.bech32_near.proofs.Elements.{lowest}
use Rattle.bech32_near.proofs.Highest.{below_next, min_left}
use Rattle.bech32_near.proofs.NearestListing.{length-placed}
use Rattle.bech32_near.proofs.NearestPatterns.{nearest_list, no_nearest}

-- what a corrector answers
pub answer_of : (rank : Fe32 → ℕ) (s : List ℕ) (code : Code) (bound : ℕ) (q : Question) (answer : Option (List (ℕ × Fe32))) → AreErasures q.window q.erasures → IsAnswerTo code bound q answer
    → IsAnswer is_field rank code.generator q.residue s q.window bound q.erasures answer
answer_of rank s code bound q None erased h = record { erased = erased; sound = tt; found = λ e k. absurd (h e k); exact = λ e k. absurd (h e k) }
answer_of rank s code bound q (Some listing) erased h = record {
  erased = erased;
  sound = record { pattern = h.pattern; solves = h.explains; listing = h.lists; alone = h.alone };
  found = λ e k. refl;
  exact = λ e k. h.only e k;
}

-- the same with a location that is one more erasure
erased_answer : (rank : Fe32 → ℕ) (s : List ℕ) (location window : ℕ) (code : Code) (bound : ℕ) (residue : List Fe32) (answer : Option (List (ℕ × Fe32))) → AreErasures window s → location < window → has s location ≡ false
    → IsAnswerTo code bound (record { residue = residue; window = window; erasures = with_erasures s (location ∷ []) }) answer
    → IsAnswer is_field rank code.generator residue s window bound (s ++ (location ∷ [])) answer
erased_answer rank s location window code bound residue answer erased within out h =
    subst (λ (t : List ℕ). IsAnswer is_field rank code.generator residue s window bound t answer) (ap (λ b. cond b s (s ++ (location ∷ []))) out)
    (answer_of rank s code bound (record { residue = residue; window = window; erasures = with_erasures s (location ∷ []) }) answer (erasures_more window s (location ∷ []) erased (within, tt)) h)

-- below an end that stands above the location and the erasures, a corrector's listing with the location
-- behind its erasures
pub one_more : {E : Type 0} (code : Code) (bound : ℕ) (q : Question) (location highest : ℕ) (given : List ℕ) (r : Result (Option (List (ℕ × Fe32))) E) → given ≡ q.erasures ++ (location ∷ [])
    → AreErasures q.window q.erasures → location ≤ highest → AllByRecursion (λ i. i ≤ highest) q.erasures → highest < q.window → IfOk r (λ answer. IsAnswerWith code bound (up_to q (Some highest)) given answer)
    → IfOk r (λ answer. IsErasedAnswer code bound q location answer)
one_more {E} code bound q location highest given r is erased low below within h = said r h
  where
    end_is : min (highest + 1) q.window ≡ suc highest
    end_is = min_left (highest + 1) q.window (omega (arith, within)) ∙ omega arith

    erasures : AllByRecursion (λ i. i < min (highest + 1) q.window) q.erasures
    erasures = subst (λ (n : ℕ). AllByRecursion (λ i. i < n) q.erasures) (sym end_is) (below_next highest q.erasures below)

    above : location < min (highest + 1) q.window
    above = omega (arith, end_is, low)

    inside : AllByRecursion (λ i. i < min (highest + 1) q.window) given
    inside = subst (λ (s : List ℕ). AllByRecursion (λ i. i < min (highest + 1) q.window) s) (sym is) (all_push (λ (i : ℕ). i < min (highest + 1) q.window) q.erasures location erasures above)

    same : with_erasures [] given ≡ with_erasures q.erasures (location ∷ [])
    same = ap (with_erasures []) is ∙ with_erasures-append [] q.erasures (location ∷ []) ∙ ap (λ (s : List ℕ). with_erasures s (location ∷ [])) (erasures_are q.erasures erased.once)

    moved : (answer : Option (List (ℕ × Fe32))) → IsAnswerTo code bound (with_given (up_to q (Some highest)) given) answer → IsErasedAnswer code bound q location answer
    moved answer k = record {
      end = min (highest + 1) q.window;
      above = above;
      erasures = record { once = erased.once; below = erasures };
      answers = subst (λ (s : List ℕ). IsAnswerTo code bound (record { residue = q.residue; window = min (highest + 1) q.window; erasures = s }) answer) same k;
    }

    said : (r : Result (Option (List (ℕ × Fe32))) E) → IfOk r (λ answer. IsAnswerWith code bound (up_to q (Some highest)) given answer)
        → IfOk r (λ answer. IsErasedAnswer code bound q location answer)
    said (Ok None) h = moved None (h inside)
    said (Ok (Some listing)) h = moved (Some listing) h.1
    said (Err e) h = tt

cut : {A : Type 0} (k : ℕ) (xs : List A) → xs ≡ take k xs ++ drop k xs
cut zero xs = refl
cut (suc k) [] = refl
cut (suc k) (x ∷ xs) = ap (λ u. x ∷ u) (cut k xs)

-- the parts of a list that was split
pub split_parts : {A : Type 0} (items slice given behind end : List A) (k : ℕ) → slice ≡ items → given ≡ take k slice → behind ≡ drop k slice → behind ≡ end → items ≡ given ++ end
split_parts items slice given behind end k same front back is =
    sym same ∙ cut k slice ∙ ap (λ u. u ++ drop k slice) (sym front) ∙ ap (λ u. given ++ u) (sym back ∙ is)

-- whether a location is an erasure
pub among_of : (s : List ℕ) (i : ℕ) → has s i ≡ true → IsAmong i s
among_of [] i e = absurd (cc e)
among_of (m ∷ s) i e = elim (eqb_tells i m) [
  | inl y ↦ inl y.1
  | inr y ↦ inr (among_of s i (sym (ap (λ b. cond b true (has s i)) y.0) ∙ e))
]

pub not_among : (s : List ℕ) (i : ℕ) → has s i ≡ false → IsAmong i s → ⊥
not_among [] i e m = m
not_among (m ∷ s) i e (inl k) = elim (eqb_tells i m) [
  | inl y ↦ (let no : true ≡ false = sym (ap (λ b. cond b true (has s i)) y.0) ∙ e in cc no)
  | inr y ↦ y.1 k
]
not_among (m ∷ s) i e (inr k) = elim (eqb_tells i m) [
  | inl y ↦ (let no : true ≡ false = sym (ap (λ b. cond b true (has s i)) y.0) ∙ e in cc no)
  | inr y ↦ not_among s i (sym (ap (λ b. cond b true (has s i)) y.0) ∙ e) k
]

module _ {F : Type 0} (f : Ops F) (g residue : List F) (s : List ℕ) (limit most : ℕ) where
  long : (x : List (ℕ × F)) → IsGathered f g residue s limit most x → length s ≤ length x
  long x h =
      let size : length h.given ≡ length s = length-placed h.given s h.placed in
      let whole : length x ≡ length (h.given ++ h.errors) = ap (λ u. length u) h.parts in
      omega (arith, length-append h.given h.errors)

-- where nothing was there before
pub all_added : {A : Type 0} (Earlier : A → A → Type 0) (P : A → Type 0) (old new : List A) → old ≡ [] → AreAdded Earlier P old new → AreAll Earlier P new
all_added {A} Earlier P old new e h = subst (λ (u : List A). AreAll Earlier P u) (sym (h.behind ∙ ap (λ u. u ++ h.more) e)) h.are_all

-- where the errors and the erasures are not within the bound
pub not_few : (errors erased more bound : ℕ) (r : Bool) → (IsTrue r ↔ (2 * errors + erased + more ≤ bound)) → r ≡ false → bound < 2 * errors + erased + more
not_few errors erased more bound r h e = elim (dec_lt bound (2 * errors + erased + more)) [
  | yes p ↦ p
  | no n ↦ (let y : r ≡ true = h.1 (omega (arith, n)) in let z : true ≡ false = sym y ∙ e in absurd (cc z))
]

-- where the erasures alone are within it, there are errors
pub some_errors : (errors erased bound : ℕ) (r : Bool) → (IsTrue r ↔ (2 * errors + erased + 0 ≤ bound)) → r ≡ false → erased ≤ bound → 0 < errors
some_errors errors erased bound r h e few =
    let many : bound < 2 * errors + erased + 0 = not_few errors erased 0 bound r h e in
    omega (arith, many, few)

-- the element of a value
pub element_value : (n : ℕ) → n < 32 → fe32.value (fe32.element n) ≡ n
element_value n low = omega arith

pub element_not_zero : (n : ℕ) → 0 < n → n < 32 → fe32.element n ≢ fe32.zero
element_not_zero n some low = λ e. let k : fe32.value (fe32.element n) ≡ fe32.value fe32.zero = ap fe32.value e in let z : fe32.value fe32.zero ≡ 0 = refl in omega (arith, k, z, element_value n low, some)

-- what is gathered where an error is taken off, with erasures t that are those of the corrector
module _ (g residue left : List Fe32) (s t : List ℕ) (x : ℕ × Fe32) (others : ℕ) (start inner : List (List (ℕ × Fe32))) (same : t ≡ s) (none : start ≡ []) (h : AreAdded (IsEarlier fe32.ops fe32.value t) (IsGathered fe32.ops g left t x.0 others) start inner) where
  here : AreAdded (IsEarlier fe32.ops fe32.value s) (IsGathered fe32.ops g left s x.0 others) [] inner
  here = subst (λ (u : List ℕ). AreAdded (IsEarlier fe32.ops fe32.value u) (IsGathered fe32.ops g left u x.0 others) [] inner) same
      (subst (λ (u : List (List (ℕ × Fe32))). AreAdded (IsEarlier fe32.ops fe32.value t) (IsGathered fe32.ops g left t x.0 others) u inner) none h)

  pub put_back : (old new : List (List (ℕ × Fe32))) → IsTakenOff fe32.ops g residue x left → has s x.0 ≡ false → x.1 ≢ fe32.zero → new ≡ old ++ map (raised (length s) x) inner
      → AreAdded (IsEarlier fe32.ops fe32.value s) (HasHighest fe32.ops g residue s x others) old new
  put_back old new off out not_zero e = with_value is_field fe32.value lowest fe32.path g residue s left x others inner old new off (not_among s x.0 out) not_zero here e

-- what was gathered below the window is all that is asked for
module _ (code : Code) (bound : ℕ) (q : Question) (errors limit : ℕ) (start found : List (List (ℕ × Fe32))) (window : limit ≡ q.window) (none : start ≡ []) (h : AreAdded (IsEarlier fe32.ops fe32.value q.erasures) (IsGathered fe32.ops code.generator q.residue q.erasures limit errors) start found) where
  all_there : AreAll (IsEarlier fe32.ops fe32.value q.erasures) (IsGathered fe32.ops code.generator q.residue q.erasures q.window errors) found
  all_there = subst (λ (n : ℕ). AreAll (IsEarlier fe32.ops fe32.value q.erasures) (IsGathered fe32.ops code.generator q.residue q.erasures n errors) found) window
      (all_added (IsEarlier fe32.ops fe32.value q.erasures) (IsGathered fe32.ops code.generator q.residue q.erasures limit errors) start found none h)

  pub are_nearest : AreErasures q.window q.erasures → length q.erasures ≤ bound → AreNearest code bound q errors found
  are_nearest erased few = nearest_list is_field fe32.value code.generator q.residue q.erasures q.window bound errors found erased few all_there

  pub are_one : DetectsFour fe32.ops code.generator q.window → q.erasures ≡ [] → errors ≤ 2 → length found ≤ 1
  are_one detects bare few = at_most_one is_field fe32.value code.generator q.residue q.window errors found
      (subst (λ (s : List ℕ). AreAll (IsEarlier fe32.ops fe32.value s) (IsGathered fe32.ops code.generator q.residue s q.window errors) found) bare all_there) few detects

-- where there are too many erasures, nothing is
pub none_nearest : (code : Code) (bound : ℕ) (q : Question) (errors : ℕ) (found : List (List (ℕ × Fe32))) → found ≡ [] → bound < length q.erasures → AreNearest code bound q errors found
none_nearest code bound q errors found none many =
    subst (λ (u : List (List (ℕ × Fe32))). AreNearest code bound q errors u) (sym none) (no_nearest is_field fe32.value code.generator q.residue q.erasures q.window bound errors many)

-- what was gathered is all that is asked for
module _ {R E : Type 0} (items : R → List (List (ℕ × Fe32))) (code : Code) (bound : ℕ) (q : Question) (errors limit : ℕ) (window : limit ≡ q.window) where
  pub all_gathered : (r : Result R E) → AreErasures q.window q.erasures
      → IfOk r (λ l. limit ≤ q.window → length q.erasures ≤ bound → AreAdded (IsEarlier fe32.ops fe32.value q.erasures) (IsGathered fe32.ops code.generator q.residue q.erasures limit errors) [] (items l))
      → IfOk r (λ l. bound < length q.erasures → items l ≡ []) → IfOk r (λ l. AreNearest code bound q errors (items l))
  all_gathered (Ok l) lawful all none = elim (dec_lt bound (length q.erasures)) [
    | yes many ↦ none_nearest code bound q errors (items l) (none many) many
    | no n ↦ (let few : length q.erasures ≤ bound = omega (arith, n) in are_nearest code bound q errors limit [] (items l) window refl (all (omega (arith, window)) few) lawful few)
  ]
  all_gathered (Err e) lawful all none = tt

  pub one_gathered : (r : Result R E)
      → IfOk r (λ l. limit ≤ q.window → length q.erasures ≤ bound → AreAdded (IsEarlier fe32.ops fe32.value q.erasures) (IsGathered fe32.ops code.generator q.residue q.erasures limit errors) [] (items l))
      → IfOk r (λ l. DetectsFour fe32.ops code.generator q.window → q.erasures ≡ [] → errors ≤ 2 → length (items l) ≤ 1)
  one_gathered (Ok l) all = λ detects bare few.
      let none : length q.erasures ≤ bound = omega (arith, ap (λ u. length u) bare) in
      are_one code bound q errors limit [] (items l) window refl (all (omega (arith, window)) none) detects bare few
  one_gathered (Err e) all = tt

-- what holds where a call succeeds
pub of_ok : {T E P : Type 0} (r : Result T E) → OnOk r P → IsOk r → P
of_ok (Ok x) h k = h
of_ok (Err x) h k = absurd (cc k)

-- what was tried of a listing that was split behind the erasures
module _ (items slice given behind rest : List (ℕ × Fe32)) (erased location others : ℕ) (error : ℕ × Fe32) (old : List (List (ℕ × Fe32))) (same : slice ≡ items) (front : given ≡ take erased slice) (back : behind ≡ drop erased slice) (is : behind ≡ error ∷ rest) (long : erased < length items) where
  cut_size : length given ≡ erased
  cut_size = omega (arith, ap (λ u. length u) front, ap (λ u. length u) same, length-take erased slice, long)

  pub tried_not : (CanBeHighest fe32.zero location others error rest → ⊥) → IsTried fe32.zero erased location others items old old
  tried_not never = record {
    given = given;
    error = error;
    rest = rest;
    parts = split_parts items slice given behind (error ∷ rest) erased same front back is;
    size = cut_size;
    added = λ k. absurd (never k);
    left = λ k. refl;
    either = inr never;
  }

  pub tried_one : (new : List (List (ℕ × Fe32))) → CanBeHighest fe32.zero location others error rest → new ≡ old ++ (given ++ with_highest error rest) ∷ [] → IsTried fe32.zero erased location others items old new
  tried_one new can pushed = record {
    given = given;
    error = error;
    rest = rest;
    parts = split_parts items slice given behind (error ∷ rest) erased same front back is;
    size = cut_size;
    added = λ k. pushed;
    left = λ never. absurd (never can);
    either = inl can;
  }

-- the listing that was tried is the one with its highest error there, or there is none
pub highest_tried : (q : Question) (location : ℕ) (code : Code) (bound : ℕ) (answer : Option (List (ℕ × Fe32))) (others : ℕ) (items : List (ℕ × Fe32)) (erased : ℕ) (old new : List (List (ℕ × Fe32)))
    → has q.erasures location ≡ false → 2 * others + length q.erasures + 1 ≤ bound → IsErasedAnswer code bound q location answer → answer ≡ Some items → erased ≡ length q.erasures
    → (erased < length items → IsTried fe32.zero erased location others items old new)
    → AreAdded (IsEarlier fe32.ops fe32.value q.erasures) (HasHighestAt fe32.ops code.generator q.residue q.erasures location others) old new
highest_tried q location code bound answer others items erased old new out few is some size try =
    let s = q.erasures in
    let h = erased_answer fe32.value s location is.end code bound q.residue answer is.erasures is.above out is.answers in
    let long : length (s ++ (location ∷ [])) ≤ length items = erasures_first is_field fe32.value code.generator q.residue s is.end bound (s ++ (location ∷ [])) answer items h some in
    let k : IsTried fe32.zero erased location others items old new = try (omega (arith, long, length-append s (location ∷ []), size)) in
    elim k.either [
      | inl y ↦ erased_one is_field fe32.value code.generator q.residue s is.end bound location others is.above (not_among s location out) few answer h items k.given k.rest k.error some k.parts (k.size ∙ size) old new y.0 y.1 (k.added y)
      | inr n ↦ subst (λ (u : List (List (ℕ × Fe32))). AreAdded (IsEarlier fe32.ops fe32.value s) (HasHighestAt fe32.ops code.generator q.residue s location others) old u) (sym (k.left n))
          (erased_not is_field fe32.value code.generator q.residue s is.end bound location others is.above (not_among s location out) few answer h items k.given k.rest k.error some k.parts (k.size ∙ size) old (λ z low. n (z, low)))
    ]

-- where nothing is listed, there is none
pub none_tried : (q : Question) (location : ℕ) (code : Code) (bound : ℕ) (answer : Option (List (ℕ × Fe32))) (others : ℕ) (old : List (List (ℕ × Fe32)))
    → has q.erasures location ≡ false → 2 * others + length q.erasures + 1 ≤ bound → IsErasedAnswer code bound q location answer → answer ≡ None
    → AreAdded (IsEarlier fe32.ops fe32.value q.erasures) (HasHighestAt fe32.ops code.generator q.residue q.erasures location others) old old
none_tried q location code bound answer others old out few is none =
    let s = q.erasures in
    erased_none is_field fe32.value code.generator q.residue s is.end bound location others is.above (not_among s location out) few answer
    (erased_answer fe32.value s location is.end code bound q.residue answer is.erasures is.above out is.answers) old none
