-- What each step puts behind the listings that were found before.
use Rattle.std.specs.Prelude.{◌≢◌, IfSome, IsSome}
use Rattle.std.specs.List.{AllByRecursion}
use Rattle.std.proofs.Common.{◌≡◌, ℕ, suc, ◌+◌, ◌*◌, ◌<◌, ◌≤◌, List, [], ◌∷◌, ◌++◌, map, drop, length, Option, None, Some, ◌⊎◌, inl, inr, subst, sym, ap, ◌∙◌, arith}
use Rattle.std.proofs.Math.Decide.{dec_lt}
use Rattle.std.proofs.lemmas.List.{length-append}
use Rattle.bech32_gf.specs.Field.{Ops, IsField}
use Rattle.bech32_poly.specs.Distinct.{IsAmong}
use Rattle.bech32_bch.specs.Erasures.{AreErasures}
use Rattle.bech32_bch.specs.Listing.{IsListing, IsSound}
use Rattle.bech32_bch.specs.Pattern.{Solves}
use Rattle.bech32_bch.proofs.Places.{drop_first}
use Rattle.bech32_lookup.specs.TakenOff.{IsTakenOff}
use Rattle.bech32_near.specs.search.Nearest.{IsEarlier}
use Rattle.bech32_near.specs.search.Steps.{AreAdded, AreAll, HasHighest, HasHighestAt, HasHighestBelow, IsGathered, raised, with_highest}
use Rattle.bech32_near.proofs.NearestErrors.{ErasedFrom, OpenedGathered, SameParts, erased_from, erased_to, open_last, raised_earlier, raised_from, raised_to, same_parts}
use Rattle.bech32_near.proofs.NearestListing.{each_below, each_lower, highest_gathered, length-placed, lower_earlier, lower_gathered, none_gathered, split, value_earlier}
use Rattle.bech32_near.proofs.NearestLists.{added_both, added_none, added_one, added_same, mapped}
use Rattle.bech32_near.proofs.NearestPatterns.{answer_gathered, answered}

-- errors of which there are few, all below the limit
abbrev pub AreWithin : {F : Type 0} → ℕ → ℕ → List (ℕ × F) → Type 0
AreWithin {F} limit most errors = (length errors ≤ most) × AllByRecursion (λ (q : ℕ × F). q.0 < limit) errors

some_same : {A : Type 0} (x y : A) → Some x ≡ Some y → x ≡ y
some_same x y e = cc e

none_some : {A : Type 0} (x : A) → None ≡ Some x → ⊥
none_some x e = cc e

module _ {F : Type 0} {f : Ops F} (fl : IsField f) (rank : F → ℕ) (g residue : List F) (s : List ℕ) (w bound : ℕ) where
  abbrev Earlier : List (ℕ × F) → List (ℕ × F) → Type 0
  Earlier = IsEarlier f rank s

  -- what the corrector finds for erasures t
  pub record IsAnswer (t : List ℕ) (answer : Option (List (ℕ × F))) : Type 0 where
    pub erased : AreErasures w t
    pub sound : IfSome answer (λ listing. IsSound f g residue t w bound listing)
    pub found : (e : List (ℕ × F)) → Solves f g residue t w bound e → IsSome answer
    pub exact : (e : List (ℕ × F)) → Solves f g residue t w bound e → IfSome answer (λ listing. IsListing f t e listing)

  pub answer_is : (t : List ℕ) (answer : Option (List (ℕ × F))) (most : ℕ) (items : List (ℕ × F)) → IsAnswer t answer → 2 * most + length t ≤ bound → IsGathered f g residue t w most items → answer ≡ Some items
  answer_is t answer most items h few k = answered fl g residue t w bound most items answer h.erased few h.found h.exact k

  pub found_gathered : (t : List ℕ) (answer : Option (List (ℕ × F))) (items : List (ℕ × F)) → IsAnswer t answer → answer ≡ Some items → (most : ℕ) × IsGathered f g residue t w most items
  found_gathered t answer items h e = answer_gathered fl g residue t w bound items h.erased (subst (λ a. IfSome a (λ listing. IsSound f g residue t w bound listing)) e h.sound)

  -- what is listed first are the erasures
  pub erasures_first : (t : List ℕ) (answer : Option (List (ℕ × F))) (items : List (ℕ × F)) → IsAnswer t answer → answer ≡ Some items → length t ≤ length items
  erasures_first t answer items h e =
      let k = found_gathered t answer items h e in
      let size : length k.1.given ≡ length t = length-placed k.1.given t k.1.placed in
      let whole : length items ≡ length (k.1.given ++ k.1.errors) = ap (λ u. length u) k.1.parts in
      omega (arith, length-append k.1.given k.1.errors)

  behind_erasures : (t : List ℕ) (limit most : ℕ) (items : List (ℕ × F)) (h : IsGathered f g residue t limit most items) → drop (length t) items ≡ h.errors
  behind_erasures t limit most items h =
      ap (drop (length t)) h.parts ∙ ap (λ n. drop n (h.given ++ h.errors)) (sym (length-placed h.given t h.placed)) ∙ drop_first h.given h.errors

  pub alone_none : (answer : Option (List (ℕ × F))) (limit most : ℕ) (old : List (List (ℕ × F))) → IsAnswer s answer → 2 * most + length s ≤ bound → limit ≤ w → answer ≡ None
      → AreAdded Earlier (IsGathered f g residue s limit most) old old
  alone_none answer limit most old h few low e = added_none Earlier (IsGathered f g residue s limit most) old
      (λ x k. none_some x (sym e ∙ answer_is s answer most x h few (lower_gathered fl g residue s limit w most most x low (omega arith) k)))

  pub alone_one : (answer : Option (List (ℕ × F))) (limit most : ℕ) (old new : List (List (ℕ × F))) (items : List (ℕ × F)) → IsAnswer s answer → 2 * most + length s ≤ bound → limit ≤ w → answer ≡ Some items
      → AreWithin limit most (drop (length s) items) → new ≡ old ++ items ∷ [] → AreAdded Earlier (IsGathered f g residue s limit most) old new
  alone_one answer limit most old new items h few low e within pushed = added_one Earlier (IsGathered f g residue s limit most) old new items pushed narrowed
      (λ x k. some_same x items (sym (answer_is s answer most x h few (lower_gathered fl g residue s limit w most most x low (omega arith) k)) ∙ e))
    where
      narrowed : IsGathered f g residue s limit most items
      narrowed =
          let k = found_gathered s answer items h e in
          let same : drop (length s) items ≡ k.1.errors = behind_erasures s w k.0 items k.1 in
          record {
            given = k.1.given;
            errors = k.1.errors;
            parts = k.1.parts;
            placed = k.1.placed;
            in_order = k.1.in_order;
            each = each_lower f s w limit k.1.errors (subst (λ u. AllByRecursion (λ (q : ℕ × F). q.0 < limit) u) same within.1) k.1.each;
            few = subst (λ u. length u ≤ most) same within.0;
            remainder = k.1.remainder;
          }

  pub alone_not : (answer : Option (List (ℕ × F))) (limit most : ℕ) (old : List (List (ℕ × F))) (items : List (ℕ × F)) → IsAnswer s answer → 2 * most + length s ≤ bound → limit ≤ w → answer ≡ Some items
      → (AreWithin limit most (drop (length s) items) → ⊥) → AreAdded Earlier (IsGathered f g residue s limit most) old old
  alone_not answer limit most old items h few low e outside = added_none Earlier (IsGathered f g residue s limit most) old
      (λ x k.
      let same : items ≡ x = some_same items x (sym e ∙ answer_is s answer most x h few (lower_gathered fl g residue s limit w most most x low (omega arith) k)) in
      let errors : drop (length s) items ≡ k.errors = ap (drop (length s)) same ∙ behind_erasures s limit most x k in
      outside (subst (λ u. AreWithin limit most u) (sym errors) (k.few, each_below f s limit k.errors k.each)))

  module _ (location others : ℕ) (within : location < w) (out : IsAmong location s → ⊥) (few : 2 * others + length s + 1 ≤ bound) (answer : Option (List (ℕ × F))) (h : IsAnswer (s ++ (location ∷ [])) answer) where
    room : 2 * others + length (s ++ (location ∷ [])) ≤ bound
    room = omega (arith, few, length-append s (location ∷ []))

    -- where the highest error is at the location, it is the answer
    highest_answered : (v : F) (x : List (ℕ × F)) (k : HasHighest f g residue s (location, v) others x) → (q : ErasedFrom fl g residue s location w others v x) × (answer ≡ Some (q.given ++ ((location, v) ∷ q.rest)))
    highest_answered v x k =
        let q : ErasedFrom fl g residue s location w others v x = erased_from fl g residue s location w others v x within k in
        (q, answer_is (s ++ (location ∷ [])) answer others (q.given ++ ((location, v) ∷ q.rest)) h room q.gathered)

    pub erased_none : (old : List (List (ℕ × F))) → answer ≡ None → AreAdded Earlier (HasHighestAt f g residue s location others) old old
    erased_none old e = added_none Earlier (HasHighestAt f g residue s location others) old
        (λ x k. let q = highest_answered k.0 x k.1 in none_some (q.0.given ++ ((location, k.0) ∷ q.0.rest)) (sym e ∙ q.1))

    module _ (items given rest : List (ℕ × F)) (error : ℕ × F) (e : answer ≡ Some items) (parts : items ≡ given ++ (error ∷ rest)) (size : length given ≡ length s) where
      -- a listing with the highest error there has these parts
      parts_are : (v : F) (x : List (ℕ × F)) → HasHighest f g residue s (location, v) others x → (q : ErasedFrom fl g residue s location w others v x) × SameParts fl given q.given error (location, v) rest q.rest
      parts_are v x k =
          let q = highest_answered v x k in
          (q.0, same_parts fl given q.0.given error (location, v) rest q.0.rest (size ∙ sym q.0.size) (sym parts ∙ some_same items (q.0.given ++ ((location, v) ∷ q.0.rest)) (sym e ∙ q.1)))

      pub erased_one : (old new : List (List (ℕ × F))) → error.1 ≢ f.zero → AreWithin location others rest → new ≡ old ++ (given ++ with_highest error rest) ∷ [] → AreAdded Earlier (HasHighestAt f g residue s location others) old new
      erased_one old new not_zero low pushed = added_one Earlier (HasHighestAt f g residue s location others) old new (given ++ with_highest error rest) pushed
          (error.1, erased_to fl g residue s location w others items given rest error out parts size not_zero low.0 low.1 opened) only
        where
          opened : OpenedGathered fl g residue s location w items
          opened = let k = found_gathered (s ++ (location ∷ [])) answer items h e in open_last fl g residue s location w k.0 items k.1

          only : (x : List (ℕ × F)) → HasHighestAt f g residue s location others x → x ≡ given ++ with_highest error rest
          only x k =
              let q = parts_are k.0 x k.1 in
              q.0.parts
              ∙ ap (λ u. u ++ with_highest (location, k.0) q.0.rest) (sym q.1.given_same)
              ∙ ap (λ u. given ++ with_highest u q.0.rest) (sym q.1.error_same)
              ∙ ap (λ u. given ++ with_highest error u) (sym q.1.rest_same)

      pub erased_not : (old : List (List (ℕ × F))) → (error.1 ≢ f.zero → AreWithin location others rest → ⊥) → AreAdded Earlier (HasHighestAt f g residue s location others) old old
      erased_not old none = added_none Earlier (HasHighestAt f g residue s location others) old (λ x k.
          let q = parts_are k.0 x k.1 in
          none (λ z. q.0.not_zero (ap (λ (u : ℕ × F). u.1) (sym q.1.error_same) ∙ z))
          (subst (λ u. AreWithin location others u) (sym q.1.rest_same) (q.0.few, q.0.below)))

  -- where the location is an erasure there is no error
  pub at_erasure : (location others : ℕ) (old : List (List (ℕ × F))) → IsAmong location s → AreAdded Earlier (HasHighestAt f g residue s location others) old old
  at_erasure location others old m = added_none Earlier (HasHighestAt f g residue s location others) old (λ x k. k.1.outside m)

module _ {F : Type 0} {f : Ops F} (fl : IsField f) (rank : F → ℕ) (lowest : (x : F) → x ≢ f.zero → rank f.zero < rank x) (apart : (x y : F) → rank x ≡ rank y → x ≡ y) (g residue : List F) (s : List ℕ) where
  -- all below a location, and all whose highest error is there, are all below the next
  pub next_location : (location next errors others : ℕ) (old between new : List (List (ℕ × F))) → next ≡ suc location → errors ≡ suc others
      → AreAdded (IsEarlier f rank s) (IsGathered f g residue s location errors) old between → AreAdded (IsEarlier f rank s) (HasHighestAt f g residue s location others) between new
      → AreAdded (IsEarlier f rank s) (IsGathered f g residue s next errors) old new
  next_location location next errors others old between new e k =
      added_both (IsEarlier f rank s) (IsGathered f g residue s location errors) (HasHighestAt f g residue s location others) (IsGathered f g residue s next errors) old between new
      (λ x h. lower_gathered fl g residue s location next errors errors x (omega (arith, e)) (omega arith) h)
      (λ x h. subst (λ n. IsGathered f g residue s n errors x) (sym e) (subst (λ n. IsGathered f g residue s (suc location) n x) (sym k) (highest_gathered fl g residue s (location, h.0) others x h.1)))
      (λ x h. either x (split fl g residue s location others x (subst (λ n. IsGathered f g residue s (suc location) n x) k (subst (λ n. IsGathered f g residue s n errors x) e h))))
      (λ x y h j. lower_earlier fl rank lowest g residue s location errors others x y h j)
    where
      either : (x : List (ℕ × F)) → IsGathered f g residue s location (suc others) x ⊎ HasHighestAt f g residue s location others x → IsGathered f g residue s location errors x ⊎ HasHighestAt f g residue s location others x
      either x (inl h) = inl (subst (λ n. IsGathered f g residue s location n x) (sym k) h)
      either x (inr h) = inr h

  -- below location 0 there are only those without errors
  pub first_location : (errors : ℕ) (old new : List (List (ℕ × F))) → AreAdded (IsEarlier f rank s) (IsGathered f g residue s 0 0) old new → AreAdded (IsEarlier f rank s) (IsGathered f g residue s 0 errors) old new
  first_location errors old new h = added_same (IsEarlier f rank s) (IsGathered f g residue s 0 0) (IsGathered f g residue s 0 errors) old new
      (λ x k. lower_gathered fl g residue s 0 0 0 errors x (omega arith) (omega arith) k)
      (λ x k. none_gathered fl g residue s errors x k) h

  -- no error has a value below 1
  pub first_value : (location others n : ℕ) (old : List (List (ℕ × F))) → n ≤ 1 → AreAdded (IsEarlier f rank s) (HasHighestBelow f rank g residue s location others n) old old
  first_value location others n old low = added_none (IsEarlier f rank s) (HasHighestBelow f rank g residue s location others n) old
      (λ x k. let some : rank f.zero < rank k.0 = lowest k.0 k.2.not_zero in let less : rank k.0 < n = k.1 in omega arith)

  -- all with a lower value, and all with this one, are all below the next
  pub next_value : (location others n next : ℕ) (v : F) (old between new : List (List (ℕ × F))) → next ≡ suc n → rank v ≡ n
      → AreAdded (IsEarlier f rank s) (HasHighestBelow f rank g residue s location others n) old between → AreAdded (IsEarlier f rank s) (HasHighest f g residue s (location, v) others) between new
      → AreAdded (IsEarlier f rank s) (HasHighestBelow f rank g residue s location others next) old new
  next_value location others n next v old between new e r =
      added_both (IsEarlier f rank s) (HasHighestBelow f rank g residue s location others n) (HasHighest f g residue s (location, v) others) (HasHighestBelow f rank g residue s location others next) old between new
      (λ x h. (h.0, omega (arith, e, h.1), h.2))
      (λ x h. (v, omega (arith, e, r), h))
      either
      (λ x y h k. value_earlier fl rank lowest g residue s location others h.0 v x y (omega (arith, r, h.1)) h.2 k)
    where
      either : (x : List (ℕ × F)) → HasHighestBelow f rank g residue s location others next x → HasHighestBelow f rank g residue s location others n x ⊎ HasHighest f g residue s (location, v) others x
      either x (u, low, h) = elim (dec_lt (rank u) n) [
        | yes k ↦ inl (u, k, h)
        | no k ↦ inr (subst (λ z. HasHighest f g residue s (location, z) others x) (apart u v (omega (arith, e, r))) h)
      ]

  -- below the number of elements are all values
  pub all_values : (location others n : ℕ) (old new : List (List (ℕ × F))) → ((v : F) → rank v < n) → AreAdded (IsEarlier f rank s) (HasHighestBelow f rank g residue s location others n) old new
      → AreAdded (IsEarlier f rank s) (HasHighestAt f g residue s location others) old new
  all_values location others n old new below h = added_same (IsEarlier f rank s) (HasHighestBelow f rank g residue s location others n) (HasHighestAt f g residue s location others) old new
      (λ x k. (k.0, k.2)) (λ x k. (k.0, below k.0, k.1)) h

  -- what is gathered for the rest of the residue, each with the error
  pub with_value : (rest : List F) (x : ℕ × F) (others : ℕ) (inner old new : List (List (ℕ × F))) → IsTakenOff f g residue x rest → (IsAmong x.0 s → ⊥) → x.1 ≢ f.zero
      → AreAdded (IsEarlier f rank s) (IsGathered f g rest s x.0 others) [] inner → new ≡ old ++ map (raised (length s) x) inner → AreAdded (IsEarlier f rank s) (HasHighest f g residue s x others) old new
  with_value rest x others inner old new off out not_zero h e = record {
    more = map (raised (length s) x) inner;
    behind = e;
    are_all = mapped (IsEarlier f rank s) (IsGathered f g rest s x.0 others) (HasHighest f g residue s x others) (raised (length s) x) inner
        (raised_to fl g residue rest s x off out not_zero others)
        (raised_from fl g residue rest s x off out not_zero others)
        (raised_earlier fl g residue rest s x off out not_zero others rank)
        (subst (λ u. AreAll (IsEarlier f rank s) (IsGathered f g rest s x.0 others) u) (sym h.behind) h.are_all);
  }
