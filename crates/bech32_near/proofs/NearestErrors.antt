-- Listings with a further error, by the residue that it leaves or as one more erasure.
use Rattle.std.specs.Prelude.{◌==◌, ◌≢◌, cond}
use Rattle.std.specs.List.{AllByRecursion}
use Rattle.std.proofs.Common.{◌≡◌, ℕ, ◌<◌, ◌≤◌, List, [], ◌∷◌, ◌++◌, length, take, drop, inl, inr, subst, sym, ap, ◌∙◌, refl, arith, append_assoc}
use Rattle.std.proofs.Math.Decide.{dec_lt}
use Rattle.bech32_gf.specs.Field.{Ops, IsField}
use Rattle.bech32_poly.specs.Distinct.{IsAmong}
use Rattle.bech32_poly.specs.Division.{remainder_of}
use Rattle.bech32_poly.specs.Pattern.{monomial, pattern_polynomial, value_of_pattern_at}
use Rattle.bech32_poly.specs.Polynomial.{coefficient}
use Rattle.bech32_poly.proofs.Lists.{add_comm, coefficient-add}
use Rattle.bech32_poly.proofs.Remainder.{remainder_exists, remainder_of-add, remainder_unique}
use Rattle.bech32_bch.specs.Listing.{IsInOrder}
use Rattle.bech32_bch.specs.Pattern.{HasRemainder, locations}
use Rattle.bech32_bch.proofs.Patterns.{at_rest}
use Rattle.bech32_bch.proofs.Places.{drop_first, locations-append, mem_left, mem_split}
use Rattle.bech32_lookup.specs.TakenOff.{IsTakenOff}
use Rattle.bech32_near.specs.search.Nearest.{IsEarlier}
use Rattle.bech32_near.specs.search.Steps.{HasHighest, IsOtherError, IsGathered, raised, with_highest}
use Rattle.bech32_near.proofs.NearestListing.{each_below, each_lower, at-erased, at-highest, gathered_above, length-placed, same_remains, take_first}

module _ {F : Type 0} {f : Ops F} (fl : IsField f) where
  taken : (a b c : F) → f.add a b ≡ c → b ≡ f.add c (f.neg a)
  taken a b c e =
      sym (fl.add_zero b) ∙ ap (f.add b) (sym (fl.add_neg a)) ∙ sym (fl.add_assoc b a (f.neg a))
      ∙ ap (λ u. f.add u (f.neg a)) (fl.add_comm b a ∙ e)

  put_back : (a b c : F) → b ≡ f.add c (f.neg a) → f.add a b ≡ c
  put_back a b c e =
      fl.add_comm a b ∙ ap (λ u. f.add u a) e ∙ fl.add_assoc c (f.neg a) a
      ∙ ap (f.add c) (fl.add_comm (f.neg a) a ∙ fl.add_neg a) ∙ fl.add_zero c

  module _ (g residue rest : List F) (x : ℕ × F) (off : IsTakenOff f g residue x rest) where
    one_term : pattern_polynomial f (x ∷ []) ≡ monomial f x.0 x.1
    one_term = add_comm fl (monomial f x.0 x.1) []

    both : (e : List (ℕ × F)) (i : ℕ) → coefficient f (remainder_of f g (pattern_polynomial f (x ∷ e))) i ≡ f.add (coefficient f off.left i) (coefficient f (remainder_of f g (pattern_polynomial f e)) i)
    both e i =
        ap (λ u. coefficient f u i) (remainder_of-add fl g (monomial f x.0 x.1) (pattern_polynomial f e))
        ∙ coefficient-add fl (remainder_of f g (monomial f x.0 x.1)) (remainder_of f g (pattern_polynomial f e)) i
        ∙ ap (λ u. f.add (coefficient f u i) (coefficient f (remainder_of f g (pattern_polynomial f e)) i))
        (ap (remainder_of f g) (sym one_term) ∙ sym (remainder_unique fl g (pattern_polynomial f (x ∷ [])) off.left off.is_left))

    -- the other errors leave what the error leaves of the residue
    pub off_it : (e : List (ℕ × F)) → HasRemainder f g residue (x ∷ e) → HasRemainder f g rest e
    off_it e r = (
      remainder_of f g (pattern_polynomial f e),
      remainder_exists fl g (pattern_polynomial f e),
      λ i. taken (coefficient f off.left i) _ (coefficient f residue i)
          (sym (both e i) ∙ ap (λ u. coefficient f u i) (sym (remainder_unique fl g (pattern_polynomial f (x ∷ e)) r.0 r.1)) ∙ r.2 i) ∙ sym (off.is_rest i),
    )

    pub with_it : (e : List (ℕ × F)) → HasRemainder f g rest e → HasRemainder f g residue (x ∷ e)
    with_it e r = (
      remainder_of f g (pattern_polynomial f (x ∷ e)),
      remainder_exists fl g (pattern_polynomial f (x ∷ e)),
      λ i. both e i ∙ put_back (coefficient f off.left i) _ (coefficient f residue i)
          (ap (λ u. coefficient f u i) (sym (remainder_unique fl g (pattern_polynomial f e) r.0 r.1)) ∙ r.2 i ∙ off.is_rest i),
    )

  pub raised_is : (s : List ℕ) (x : ℕ × F) (items given errors : List (ℕ × F)) → items ≡ given ++ errors → locations given ≡ s → raised (length s) x items ≡ given ++ with_highest x errors
  raised_is s x items given errors parts placed =
      ap (raised (length s) x) parts
      ∙ ap (λ n. take n (given ++ errors) ++ with_highest x (drop n (given ++ errors))) (sym (length-placed given s placed))
      ∙ ap (λ u. u ++ with_highest x (drop (length given) (given ++ errors))) (take_first given errors)
      ∙ ap (λ u. given ++ with_highest x u) (drop_first given errors)

  module _ (g residue rest : List F) (s : List ℕ) (x : ℕ × F) (off : IsTakenOff f g residue x rest) (out : IsAmong x.0 s → ⊥) (not_zero : x.1 ≢ f.zero) (others : ℕ) where
    -- what is left of the residue by others below gives the residue with the error
    pub raised_to : (items : List (ℕ × F)) → IsGathered f g rest s x.0 others items → HasHighest f g residue s x others (raised (length s) x items)
    raised_to items h = record {
      given = h.given;
      rest = h.errors;
      parts = raised_is s x items h.given h.errors h.parts h.placed;
      placed = h.placed;
      outside = out;
      not_zero = not_zero;
      in_order = h.in_order;
      each = h.each;
      few = h.few;
      remainder = same_remains fl g residue (x ∷ items) (raised (length s) x items)
          (λ i. ap (λ u. value_of_pattern_at f (x ∷ u) i) h.parts ∙ sym (at-highest fl x h.given h.errors i) ∙ ap (λ u. value_of_pattern_at f u i) (sym (raised_is s x items h.given h.errors h.parts h.placed)))
          (with_it g residue rest x off items h.remainder);
    }

    pub raised_from : (items : List (ℕ × F)) → HasHighest f g residue s x others items → (e : List (ℕ × F)) × IsGathered f g rest s x.0 others e × (items ≡ raised (length s) x e)
    raised_from items h = (
      h.given ++ h.rest,
      record {
        given = h.given;
        errors = h.rest;
        parts = refl;
        placed = h.placed;
        in_order = h.in_order;
        each = h.each;
        few = h.few;
        remainder = off_it g residue rest x off (h.given ++ h.rest) (same_remains fl g residue items (x ∷ (h.given ++ h.rest)) (λ i. ap (λ u. value_of_pattern_at f u i) h.parts ∙ at-highest fl x h.given h.rest i) h.remainder);
      },
      h.parts ∙ sym (raised_is s x (h.given ++ h.rest) h.given h.rest refl h.placed),
    )

    raised_at : (items : List (ℕ × F)) (i : ℕ) → IsGathered f g rest s x.0 others items → value_of_pattern_at f (raised (length s) x items) i ≡ value_of_pattern_at f (x ∷ items) i
    raised_at items i h =
        ap (λ u. value_of_pattern_at f u i) (raised_is s x items h.given h.errors h.parts h.placed)
        ∙ at-highest fl x h.given h.errors i
        ∙ ap (λ u. value_of_pattern_at f (x ∷ u) i) (sym h.parts)

    -- the error keeps the order
    pub raised_earlier : (rank : F → ℕ) (e e' : List (ℕ × F)) → IsGathered f g rest s x.0 others e → IsGathered f g rest s x.0 others e' → IsEarlier f rank s e e' → IsEarlier f rank s (raised (length s) x e) (raised (length s) x e')
    raised_earlier rank e e' h h' k = record {
      location = k.location;
      outside = k.outside;
      same_above = λ i high o. raised_at e i h ∙ ap (f.add (cond (x.0 == i) x.1 f.zero)) (k.same_above i high o) ∙ sym (raised_at e' i h');
      lower = subst (λ u. rank u < rank (value_of_pattern_at f (raised (length s) x e') k.location)) (sym (raised_at e k.location h ∙ at_other e))
          (subst (λ u. rank (value_of_pattern_at f e k.location) < rank u) (sym (raised_at e' k.location h' ∙ at_other e')) k.lower);
    }
      where
        below : k.location < x.0
        below = elim (dec_lt k.location x.0) [
          | yes low ↦ low
          | no high ↦
              let u : value_of_pattern_at f e k.location ≡ f.zero = gathered_above fl g rest s x.0 others e k.location h (omega arith) k.outside in
              let u' : value_of_pattern_at f e' k.location ≡ f.zero = gathered_above fl g rest s x.0 others e' k.location h' (omega arith) k.outside in
              let same : rank (value_of_pattern_at f e k.location) ≡ rank (value_of_pattern_at f e' k.location) = ap rank (u ∙ sym u') in
              let less : rank (value_of_pattern_at f e k.location) < rank (value_of_pattern_at f e' k.location) = k.lower in
              absurd (omega arith)
        ]

        at_other : (u : List (ℕ × F)) → value_of_pattern_at f (x ∷ u) k.location ≡ value_of_pattern_at f u k.location
        at_other u = at_rest fl x u k.location (λ z. omega (arith, z, below))

  -- a list whose last location is this one
  pub record Opened (s : List ℕ) (location : ℕ) (items : List (ℕ × F)) : Type 0 where
    pub given : List (ℕ × F)
    pub error : ℕ × F
    pub parts : items ≡ given ++ (error ∷ [])
    pub placed : locations given ≡ s
    pub here : error.0 ≡ location

  tail_same : (i j : ℕ) (r t : List ℕ) → i ∷ r ≡ j ∷ t → r ≡ t
  tail_same i j r t e = cc e

  head_same : (i j : ℕ) (r t : List ℕ) → i ∷ r ≡ j ∷ t → i ≡ j
  head_same i j r t e = cc e

  no_more : (i : ℕ) (r : List ℕ) → [] ≡ i ∷ r → ⊥
  no_more i r e = cc e

  opened : (s : List ℕ) (location : ℕ) (items : List (ℕ × F)) → locations items ≡ s ++ (location ∷ []) → Opened s location items
  opened [] location [] e = absurd (no_more location [] e)
  opened [] location (q ∷ []) e = record { given = []; error = q; parts = refl; placed = refl; here = head_same q.0 location [] [] e }
  opened [] location (q ∷ n ∷ items) e = absurd (no_more n.0 (locations items) (sym (tail_same q.0 location (n.0 ∷ locations items) [] e)))
  opened (i ∷ s) location [] e = absurd (no_more i (s ++ (location ∷ [])) e)
  opened (i ∷ s) location (q ∷ items) e = step (opened s location items (tail_same q.0 i (locations items) (s ++ (location ∷ [])) e))
    where
      first : q.0 ≡ i
      first = head_same q.0 i (locations items) (s ++ (location ∷ [])) e

      step : Opened s location items → Opened (i ∷ s) location (q ∷ items)
      step o = record { given = q ∷ o.given; error = o.error; parts = ap (λ u. q ∷ u) o.parts; placed = ap (λ u. u ∷ locations o.given) first ∙ ap (λ u. i ∷ u) o.placed; here = o.here }

  pub record OpenedGathered (g residue : List F) (s : List ℕ) (location w : ℕ) (items : List (ℕ × F)) : Type 0 where
    pub given : List (ℕ × F)
    pub error : ℕ × F
    pub rest : List (ℕ × F)
    pub parts : items ≡ given ++ (error ∷ rest)
    pub placed : locations given ≡ s
    pub here : error.0 ≡ location
    pub in_order : IsInOrder (locations rest)
    pub each : AllByRecursion (IsOtherError f s w) rest
    pub remainder : HasRemainder f g residue items

  -- a listing with one more erasure
  pub open_last : (g residue : List F) (s : List ℕ) (location w most : ℕ) (items : List (ℕ × F)) → IsGathered f g residue (s ++ (location ∷ [])) w most items → OpenedGathered g residue s location w items
  open_last g residue s location w most items h = step (opened s location h.given h.placed)
    where
      fewer_erasures : (w : ℕ) (errors : List (ℕ × F)) → AllByRecursion (IsOtherError f (s ++ (location ∷ [])) w) errors → AllByRecursion (IsOtherError f s w) errors
      fewer_erasures w [] a = tt
      fewer_erasures w (q ∷ errors) a = (record { below = a.0.below; outside = λ m. a.0.outside (mem_left q.0 s (location ∷ []) m); not_zero = a.0.not_zero }, fewer_erasures w errors a.1)

      step : Opened s location h.given → OpenedGathered g residue s location w items
      step o = record {
        given = o.given;
        error = o.error;
        rest = h.errors;
        parts = h.parts ∙ ap (λ u. u ++ h.errors) o.parts ∙ append_assoc o.given (o.error ∷ []) h.errors;
        placed = o.placed;
        here = o.here;
        in_order = h.in_order;
        each = fewer_erasures w h.errors h.each;
        remainder = h.remainder;
      }

  -- lists of the same length before an error
  pub record SameParts (given given' : List (ℕ × F)) (error error' : ℕ × F) (rest rest' : List (ℕ × F)) : Type 0 where
    pub given_same : given ≡ given'
    pub error_same : error ≡ error'
    pub rest_same : rest ≡ rest'

  pub same_parts : (given given' : List (ℕ × F)) (error error' : ℕ × F) (rest rest' : List (ℕ × F)) → length given ≡ length given' → given ++ (error ∷ rest) ≡ given' ++ (error' ∷ rest')
      → SameParts given given' error error' rest rest'
  same_parts given given' error error' rest rest' sizes both = record { given_same = first; error_same = cc behind; rest_same = cc behind }
    where
      first : given ≡ given'
      first = sym (take_first given (error ∷ rest)) ∙ ap (take (length given)) both ∙ ap (λ n. take n (given' ++ (error' ∷ rest'))) sizes ∙ take_first given' (error' ∷ rest')

      behind : error ∷ rest ≡ error' ∷ rest'
      behind = sym (drop_first given (error ∷ rest)) ∙ ap (drop (length given)) both ∙ ap (λ n. drop n (given' ++ (error' ∷ rest'))) sizes ∙ drop_first given' (error' ∷ rest')

  -- where its other errors are below the location
  pub erased_to : (g residue : List F) (s : List ℕ) (location w others : ℕ) (items given rest : List (ℕ × F)) (error : ℕ × F) → (IsAmong location s → ⊥)
      → items ≡ given ++ (error ∷ rest) → length given ≡ length s → error.1 ≢ f.zero → length rest ≤ others → AllByRecursion (λ (q : ℕ × F). q.0 < location) rest
      → OpenedGathered g residue s location w items → HasHighest f g residue s (location, error.1) others (given ++ with_highest error rest)
  erased_to g residue s location w others items given rest error out parts size not_zero few below h = record {
    given = h.given;
    rest = h.rest;
    parts = ap (λ u. u ++ with_highest error rest) p.given_same ∙ ap (λ u. h.given ++ with_highest u rest) shown ∙ ap (λ u. h.given ++ with_highest (location, error.1) u) p.rest_same;
    placed = h.placed;
    outside = out;
    not_zero = not_zero;
    in_order = h.in_order;
    each = each_lower f s w location h.rest (subst (λ u. AllByRecursion (λ (q : ℕ × F). q.0 < location) u) p.rest_same below) h.each;
    few = subst (λ u. length u ≤ others) p.rest_same few;
    remainder = same_remains fl g residue items (given ++ with_highest error rest)
        (λ i. ap (λ u. value_of_pattern_at f u i) (parts ∙ sym (append_assoc given (error ∷ []) rest)) ∙ sym (at-erased fl error given rest i)) h.remainder;
  }
    where
      p : SameParts given h.given error h.error rest h.rest
      p = same_parts given h.given error h.error rest h.rest (size ∙ sym (length-placed h.given s h.placed)) (sym parts ∙ h.parts)

      shown : error ≡ (location, error.1)
      shown = ap (λ i. (i, error.1)) (ap (λ (q : ℕ × F). q.0) p.error_same ∙ h.here)

  pub record ErasedFrom (g residue : List F) (s : List ℕ) (location w others : ℕ) (v : F) (items : List (ℕ × F)) : Type 0 where
    pub given : List (ℕ × F)
    pub rest : List (ℕ × F)
    pub parts : items ≡ given ++ with_highest (location, v) rest
    pub size : length given ≡ length s
    pub below : AllByRecursion (λ (q : ℕ × F). q.0 < location) rest
    pub few : length rest ≤ others
    pub not_zero : v ≢ f.zero
    pub gathered : IsGathered f g residue (s ++ (location ∷ [])) w others (given ++ ((location, v) ∷ rest))

  -- with the highest location as one more erasure
  pub erased_from : (g residue : List F) (s : List ℕ) (location w others : ℕ) (v : F) (items : List (ℕ × F)) → location < w → HasHighest f g residue s (location, v) others items → ErasedFrom g residue s location w others v items
  erased_from g residue s location w others v items within h = record {
    given = h.given;
    rest = h.rest;
    parts = h.parts;
    size = length-placed h.given s h.placed;
    below = each_below f s location h.rest h.each;
    few = h.few;
    not_zero = h.not_zero;
    gathered = record {
      given = h.given ++ ((location, v) ∷ []);
      errors = h.rest;
      parts = sym (append_assoc h.given ((location, v) ∷ []) h.rest);
      placed = locations-append h.given ((location, v) ∷ []) ∙ ap (λ u. u ++ (location ∷ [])) h.placed;
      in_order = h.in_order;
      each = one_more_erasure h.rest h.each;
      few = h.few;
      remainder = same_remains fl g residue items (h.given ++ ((location, v) ∷ h.rest))
          (λ i. ap (λ u. value_of_pattern_at f u i) h.parts ∙ at-erased fl (location, v) h.given h.rest i ∙ ap (λ u. value_of_pattern_at f u i) (append_assoc h.given ((location, v) ∷ []) h.rest)) h.remainder;
    };
  }
    where
      apart : (i : ℕ) → i < location → (IsAmong i s → ⊥) → IsAmong i (s ++ (location ∷ [])) → ⊥
      apart i low out m = elim (mem_split i s (location ∷ []) m) [ inl k ↦ out k | inr k ↦ elim k [ inl e ↦ omega (arith, low, e) | inr n ↦ n ] ]

      one_more_erasure : (errors : List (ℕ × F)) → AllByRecursion (IsOtherError f s location) errors → AllByRecursion (IsOtherError f (s ++ (location ∷ [])) w) errors
      one_more_erasure [] a = tt
      one_more_erasure (q ∷ errors) a =
          let low : q.0 < location = a.0.below in
          (record { below = omega (arith, low, within); outside = apart q.0 low a.0.outside; not_zero = a.0.not_zero }, one_more_erasure errors a.1)
