-- Listings that leave a residue, and the patterns of which they are the listings.
use Rattle.std.specs.Prelude.{◌==◌, ◌≢◌, ◌⊎◌, IfSome, IsSome, Bool, false, true, cond}
use Rattle.std.specs.List.{AllByRecursion}
use Rattle.std.proofs.Common.{◌≡◌, ℕ, zero, suc, ◌+◌, ◌*◌, ◌<◌, ◌≤◌, List, [], ◌∷◌, ◌++◌, map, length, Option, None, Some, inl, inr, subst, sym, ap, ◌∙◌, refl, arith}
use Rattle.std.proofs.lemmas.Bool.Decides.{eqb_tells}
use Rattle.std.proofs.lemmas.List.{length-map}
use Rattle.bech32_gf.specs.Field.{Ops, IsField}
use Rattle.bech32_poly.specs.Distinct.{IsAmong, IsOnce}
use Rattle.bech32_poly.specs.Embedding.{Embeds}
use Rattle.bech32_poly.specs.Pattern.{value_of_pattern_at}
use Rattle.bech32_bch.specs.Erasures.{AreErasures}
use Rattle.bech32_bch.specs.Listing.{ComesBefore, IsInOrder, IsListing, IsSound}
use Rattle.bech32_bch.specs.Pattern.{HasRemainder, IsPattern, Solves, errors_outside, locations}
use Rattle.bech32_bch.proofs.Accepted.{passes_again}
use Rattle.bech32_bch.proofs.Alone.{mem_or_not}
use Rattle.bech32_bch.proofs.Counting.{located_outside as stands_outside, outside}
use Rattle.bech32_bch.proofs.Patterns.{all-kept, all_located, at-kept, at_absent, errors-misses, kept, kept-errors, kept-once, kept-values, listed_same, locations_listed, misses, misses_after, misses_most, outside_count, own, own_values}
use Rattle.bech32_bch.proofs.Places.{all_of, length-locations, locations-append, look, mem_split, once-append, once_fits}
use Rattle.bech32_bch.proofs.Rising.{once_in_order}
use Rattle.bech32_near.specs.search.Nearest.{IsEarlier, IsListed, IsNear, IsNearListing, IsNearestList}
use Rattle.bech32_near.specs.search.Steps.{AreAll, IsOtherError, IsGathered, with_highest}
use Rattle.bech32_near.proofs.NearestListing.{all_weaker, each_higher, each_location, located_below, located_outside, lower_gathered, put_all, put_in_order, same_remains}
use Rattle.bech32_lookup.proofs.Remainders.{left_over}

-- two that come before one another are the same
never_both : (x y : ℕ) → ComesBefore x y → ComesBefore y x → ⊥
never_both x y h k =
    let a : 0 < y = h.0 in
    let b : 0 < x = k.0 in
    elim h.1 [
      | inl z ↦ omega (arith, z, b)
      | inr less ↦ elim k.1 [ inl z ↦ omega (arith, z, a) | inr more ↦ omega (arith, less, more) ]
    ]

-- locations in order are told by what is among them
in_order_unique : (xs ys : List ℕ) → IsInOrder xs → IsInOrder ys → ((i : ℕ) → IsAmong i xs → IsAmong i ys) → ((i : ℕ) → IsAmong i ys → IsAmong i xs) → xs ≡ ys
in_order_unique [] [] h k to from = refl
in_order_unique [] (y ∷ ys) h k to from = absurd (from y (inl refl))
in_order_unique (x ∷ xs) [] h k to from = absurd (to x (inl refl))
in_order_unique (x ∷ xs) (y ∷ ys) h k to from = elim (eqb_tells x y) [
  | inl e ↦ ap (λ u. u ∷ xs) e.1 ∙ ap (λ u. y ∷ u) (in_order_unique xs ys h.1 k.1
      (λ i m. rest i x xs ys y e.1 (once_in_order (x ∷ xs) h).0 m (to i (inr m)))
      (λ i m. rest i y ys xs x (sym e.1) (once_in_order (y ∷ ys) k).0 m (from i (inr m))))
  | inr n ↦ absurd (never_both x y (look (ComesBefore x) y xs h.0 (other y x xs (λ e. n.1 (sym e)) (from y (inl refl)))) (look (ComesBefore y) x ys k.0 (other x y ys n.1 (to x (inl refl)))))
]
  where
    other : (i j : ℕ) (zs : List ℕ) → i ≢ j → IsAmong i (j ∷ zs) → IsAmong i zs
    other i j zs n (inl e) = absurd (n e)
    other i j zs n (inr m) = m

    rest : (i a : ℕ) (us bs : List ℕ) (b : ℕ) → a ≡ b → AllByRecursion (λ y. a ≢ y) us → IsAmong i us → IsAmong i (b ∷ bs) → IsAmong i bs
    rest i a us bs b e once m (inl z) = absurd (look (λ y. a ≢ y) i us once m (e ∙ sym z))
    rest i a us bs b e once m (inr n) = n

all_mapped : {F : Type 0} (h : ℕ → F) (P : ℕ × F → Type 0) (xs : List ℕ) → ((i : ℕ) → IsAmong i xs → P (i, h i)) → AllByRecursion P (map (λ i. (i, h i)) xs)
all_mapped h P [] k = tt
all_mapped h P (x ∷ xs) k = (k x (inl refl), all_mapped h P xs (λ i m. k i (inr m)))

map-append_ : {F : Type 0} (h : ℕ → F) (xs ys : List ℕ) → map {B = ℕ × F} (λ i. (i, h i)) (xs ++ ys) ≡ map (λ i. (i, h i)) xs ++ map (λ i. (i, h i)) ys
map-append_ h [] ys = refl
map-append_ h (x ∷ xs) ys = ap (λ u. (x, h x) ∷ u) (map-append_ h xs ys)

module _ {F : Type 0} {f : Ops F} (fl : IsField f) where
  itself : Embeds f f (λ x. x)
  itself = record { one = refl; add = λ x y. refl; mul = λ x y. refl }

  -- a location whose value is not zero is one of the pattern's
  valued : (e : List (ℕ × F)) (i : ℕ) → value_of_pattern_at f e i ≢ f.zero → IsAmong i (locations e)
  valued e i n = elim (mem_or_not i (locations e)) [ inl m ↦ m | inr k ↦ absurd (n (at_absent fl e i k)) ]

  -- a pattern has one listing
  pub one_listing : (s : List ℕ) (e x y : List (ℕ × F)) → IsListing f s e x → IsListing f s e y → x ≡ y
  one_listing s e x y h k =
      h.items_are
      ∙ ap (λ u. map (λ i. (i, value_of_pattern_at f e i)) (s ++ u)) (in_order_unique h.errors k.errors h.in_order k.in_order (λ i m. (k.are_errors i).1 ((h.are_errors i).0 m)) (λ i m. (h.are_errors i).1 ((k.are_errors i).0 m)))
      ∙ sym k.items_are

  -- the listing of a pattern leaves what the pattern leaves
  pub gathered_of : (g residue : List F) (s : List ℕ) (w : ℕ) (e items : List (ℕ × F)) → AreErasures w s → IsPattern f w e → HasRemainder f g residue e → IsListing f s e items
      → IsGathered f g residue s w (errors_outside s e) items
  gathered_of g residue s w e items erased pattern remainder h = record {
    given = map (λ i. (i, value_of_pattern_at f e i)) s;
    errors = map (λ i. (i, value_of_pattern_at f e i)) h.errors;
    parts = h.items_are ∙ map-append_ (value_of_pattern_at f e) s h.errors;
    placed = locations_listed (value_of_pattern_at f e) s;
    in_order = subst (λ u. IsInOrder u) (sym (locations_listed (value_of_pattern_at f e) h.errors)) h.in_order;
    each = all_mapped (value_of_pattern_at f e) (IsOtherError f s w) h.errors (λ i m.
        let k : (value_of_pattern_at f e i ≢ f.zero) × (IsAmong i s → ⊥) = (h.are_errors i).0 m in
        record { below = look (λ j. j < w) i (locations e) (each_location (λ j. j < w) e pattern.below) (valued e i k.0); outside = k.1; not_zero = k.0 });
    few = omega (arith, length-map {B = ℕ × F} h.errors (λ i. (i, value_of_pattern_at f e i)), counted, outside_count s e);
    remainder = left_over fl g residue items (passes_again fl fl itself w (2 * errors_outside s e + length s) g residue s e items erased solves h);
  }
    where
      counted : length h.errors ≤ length (outside s e)
      counted = once_fits h.errors (outside s e) (once_in_order h.errors h.in_order) (λ i m. stands_outside s e i (valued e i ((h.are_errors i).0 m).0) ((h.are_errors i).0 m).1)

      solves : Solves f g residue s w (2 * errors_outside s e + length s) e
      solves = record { pattern = pattern; remainder = remainder; few = omega arith }

  -- the pattern of a listing
  pub record PatternOf (g residue : List F) (s : List ℕ) (w most : ℕ) (items : List (ℕ × F)) : Type 0 where
    pub pattern : List (ℕ × F)
    pub is_pattern : IsPattern f w pattern
    pub remainder : HasRemainder f g residue pattern
    pub few : errors_outside s pattern ≤ most
    pub listing : IsListing f s pattern items

  pub pattern_of : (g residue : List F) (s : List ℕ) (w most : ℕ) (items : List (ℕ × F)) → AreErasures w s → IsGathered f g residue s w most items → PatternOf g residue s w most items
  pattern_of g residue s w most items erased h = record {
    pattern = kept fl items;
    is_pattern = record {
      below = all_located (λ i. i < w) (kept fl items) (all-kept fl (λ i. i < w) items (subst (λ u. AllByRecursion (λ i. i < w) u) (sym places) (all_of (λ i. i < w) (s ++ found) below)));
      values = kept-values fl items;
      once = kept-once fl items items_once;
    };
    remainder = same_remains fl g residue items (kept fl items) (λ i. sym (at-kept fl items i)) h.remainder;
    few = omega (arith, kept-errors fl s items, errors-misses s items ∙ ap (misses s) places ∙ misses_after s s found (λ x m. m), misses_most s found, length-locations h.errors, h.few);
    listing = record {
      errors = found;
      in_order = h.in_order;
      are_errors = λ i. (
        (λ m. ((λ z. not_zero i m (sym (at-kept fl items i) ∙ z)), apart i m)),
        from i,
      );
      items_are = own fl items items_once ∙ ap (map (λ i. (i, value_of_pattern_at f items i))) places
          ∙ listed_same (value_of_pattern_at f items) (value_of_pattern_at f (kept fl items)) (λ i. sym (at-kept fl items i)) (s ++ found);
    };
  }
    where
      found : List ℕ
      found = locations h.errors

      places : locations items ≡ s ++ found
      places = ap locations h.parts ∙ locations-append h.given h.errors ∙ ap (λ u. u ++ found) h.placed

      apart : (i : ℕ) → IsAmong i found → IsAmong i s → ⊥
      apart i m = look (λ j. IsAmong j s → ⊥) i found (located_outside f s w h.errors h.each) m

      below : (i : ℕ) → IsAmong i (s ++ found) → i < w
      below i m = elim (mem_split i s found m) [
        | inl k ↦ look (λ j. j < w) i s erased.below k
        | inr k ↦ look (λ j. j < w) i found (located_below f s w h.errors h.each) k
      ]

      items_once : IsOnce (locations items)
      items_once = subst (λ u. IsOnce u) (sym places) (once-append s found erased.once (once_in_order found h.in_order) (λ x m k. apart x k m))

      -- each error's value is the listing's there
      owned : AllByRecursion (λ (q : ℕ × F). q.1 ≡ value_of_pattern_at f items q.0) h.errors
      owned = behind h.given h.errors (subst (λ u. AllByRecursion (λ (q : ℕ × F). q.1 ≡ value_of_pattern_at f items q.0) u) h.parts (own_values fl items items_once))
        where
          behind : (xs ys : List (ℕ × F)) → AllByRecursion (λ (q : ℕ × F). q.1 ≡ value_of_pattern_at f items q.0) (xs ++ ys) → AllByRecursion (λ (q : ℕ × F). q.1 ≡ value_of_pattern_at f items q.0) ys
          behind [] ys a = a
          behind (x ∷ xs) ys a = behind xs ys a.1

      values : (ys : List (ℕ × F)) → AllByRecursion (λ (q : ℕ × F). q.1 ≡ value_of_pattern_at f items q.0) ys → AllByRecursion (IsOtherError f s w) ys → AllByRecursion (λ i. value_of_pattern_at f items i ≢ f.zero) (locations ys)
      values [] a b = tt
      values (y ∷ ys) a b = ((λ z. b.0.not_zero (a.0 ∙ z)), values ys a.1 b.1)

      not_zero : (i : ℕ) → IsAmong i found → value_of_pattern_at f items i ≢ f.zero
      not_zero i m = look (λ j. value_of_pattern_at f items j ≢ f.zero) i found (values h.errors owned h.each) m

      from : (i : ℕ) → (value_of_pattern_at f (kept fl items) i ≢ f.zero) × (IsAmong i s → ⊥) → IsAmong i found
      from i q = elim (mem_or_not i (s ++ found)) [
        | inl m ↦ elim (mem_split i s found m) [ inl k ↦ absurd (q.1 k) | inr k ↦ k ]
        | inr k ↦ absurd (q.0 (at-kept fl items i ∙ at_absent fl items i (λ m. k (subst (λ u. IsAmong i u) places m))))
      ]

  -- what an answer lists leaves the residue
  pub answer_gathered : (g residue : List F) (s : List ℕ) (w bound : ℕ) (items : List (ℕ × F)) → AreErasures w s → IsSound f g residue s w bound items → (most : ℕ) × IsGathered f g residue s w most items
  answer_gathered g residue s w bound items erased h = (errors_outside s h.pattern, gathered_of g residue s w h.pattern items erased h.solves.pattern h.solves.remainder h.listing)

  -- a listing within the bound is the answer
  pub answered : (g residue : List F) (s : List ℕ) (w bound most : ℕ) (items : List (ℕ × F)) (answer : Option (List (ℕ × F))) → AreErasures w s → 2 * most + length s ≤ bound
      → ((e : List (ℕ × F)) → Solves f g residue s w bound e → IsSome answer)
      → ((e : List (ℕ × F)) → Solves f g residue s w bound e → IfSome answer (λ listing. IsListing f s e listing))
      → IsGathered f g residue s w most items → answer ≡ Some items
  answered g residue s w bound most items answer erased few found exact h = step answer (found p.pattern solves) (exact p.pattern solves)
    where
      p : PatternOf g residue s w most items
      p = pattern_of g residue s w most items erased h

      solves : Solves f g residue s w bound p.pattern
      solves = record { pattern = p.is_pattern; remainder = p.remainder; few = omega (arith, few, p.few) }

      step : (a : Option (List (ℕ × F))) → IsSome a → IfSome a (λ listing. IsListing f s p.pattern listing) → a ≡ Some items
      step None n k = absurd (cc n)
      step (Some listing) n k = ap (λ u. Some u) (one_listing s p.pattern listing items k p.listing)

  -- the errors of a pattern below a limit, in order
  record ErrorsOf (s : List ℕ) (e : List (ℕ × F)) (limit : ℕ) : Type 0 where
    errors : List (ℕ × F)
    in_order : IsInOrder (locations errors)
    each : AllByRecursion (IsOtherError f s limit) errors
    own_value : AllByRecursion (λ (q : ℕ × F). q.1 ≡ value_of_pattern_at f e q.0) errors
    all : (i : ℕ) → i < limit → value_of_pattern_at f e i ≢ f.zero → (IsAmong i s → ⊥) → IsAmong i (locations errors)

  put_among : (x : ℕ × F) (rest : List (ℕ × F)) (i : ℕ) → IsAmong i (locations (x ∷ rest)) → IsAmong i (locations (with_highest x rest))
  put_among x [] i m = m
  put_among x (q ∷ rest) i m = step (q.0 == 0) m
    where
      step : (b : Bool) → IsAmong i (locations (x ∷ q ∷ rest)) → IsAmong i (locations (cond b (q ∷ x ∷ rest) (x ∷ q ∷ rest)))
      step false m = m
      step true (inl e) = inr (inl e)
      step true (inr (inl e)) = inl e
      step true (inr (inr m)) = inr (inr m)

  errors_below : (s : List ℕ) (e : List (ℕ × F)) (limit : ℕ) → ErrorsOf s e limit
  errors_below s e zero = record { errors = []; in_order = tt; each = tt; own_value = tt; all = λ i h n o. absurd (omega arith) }
  errors_below s e (suc limit) = step (fl.same_or_not (value_of_pattern_at f e limit) f.zero) (mem_or_not limit s) (errors_below s e limit)
    where
      left : ErrorsOf s e limit → ((i : ℕ) → i ≡ limit → value_of_pattern_at f e i ≢ f.zero → (IsAmong i s → ⊥) → ⊥) → ErrorsOf s e (suc limit)
      left h none = record {
        errors = h.errors;
        in_order = h.in_order;
        each = each_higher f s limit (suc limit) h.errors (omega arith) h.each;
        own_value = h.own_value;
        all = λ i low n o. elim (eqb_tells i limit) [ inl y ↦ absurd (none i y.1 n o) | inr y ↦ (let other : i ≢ limit = y.1 in h.all i (omega arith) n o) ];
      }

      step : Dec (value_of_pattern_at f e limit ≡ f.zero) → IsAmong limit s ⊎ (IsAmong limit s → ⊥) → ErrorsOf s e limit → ErrorsOf s e (suc limit)
      step (yes z) d h = left h (λ i same n o. n (ap (value_of_pattern_at f e) same ∙ z))
      step (no n) (inl m) h = left h (λ i same k o. o (subst (λ j. IsAmong j s) (sym same) m))
      step (no n) (inr o) h = record {
        errors = with_highest (limit, value_of_pattern_at f e limit) h.errors;
        in_order = put_in_order fl s (limit, value_of_pattern_at f e limit) h.errors h.in_order h.each;
        each = put_all fl (IsOtherError f s (suc limit)) (limit, value_of_pattern_at f e limit) h.errors (record { below = omega arith; outside = o; not_zero = n }) (each_higher f s limit (suc limit) h.errors (omega arith) h.each);
        own_value = put_all fl (λ (q : ℕ × F). q.1 ≡ value_of_pattern_at f e q.0) (limit, value_of_pattern_at f e limit) h.errors refl h.own_value;
        all = λ i low k u. put_among (limit, value_of_pattern_at f e limit) h.errors i (elim (eqb_tells i limit) [ inl y ↦ inl y.1 | inr y ↦ (let other : i ≢ limit = y.1 in inr (h.all i (omega arith) k u)) ]);
      }

  -- every pattern has a listing
  pub listing_of : (s : List ℕ) (w : ℕ) (e : List (ℕ × F)) → IsPattern f w e → (items : List (ℕ × F)) × IsListing f s e items
  listing_of s w e pattern = (
    map (λ i. (i, value_of_pattern_at f e i)) (s ++ locations h.errors),
    record {
      errors = locations h.errors;
      in_order = h.in_order;
      are_errors = λ i. (
        (λ m. (look (λ j. value_of_pattern_at f e j ≢ f.zero) i (locations h.errors) (values h.errors h.own_value h.each) m, look (λ j. IsAmong j s → ⊥) i (locations h.errors) (located_outside f s w h.errors h.each) m)),
        (λ k. h.all i (look (λ j. j < w) i (locations e) (each_location (λ j. j < w) e pattern.below) (valued e i k.0)) k.0 k.1),
      );
      items_are = refl;
    },
  )
    where
      h : ErrorsOf s e w
      h = errors_below s e w

      values : (ys : List (ℕ × F)) → AllByRecursion (λ (q : ℕ × F). q.1 ≡ value_of_pattern_at f e q.0) ys → AllByRecursion (IsOtherError f s w) ys → AllByRecursion (λ i. value_of_pattern_at f e i ≢ f.zero) (locations ys)
      values [] a b = tt
      values (y ∷ ys) a b = ((λ z. b.0.not_zero (a.0 ∙ z)), values ys a.1 b.1)

  -- all listings that are gathered are those of all near patterns
  pub nearest_list : (rank : F → ℕ) (g residue : List F) (s : List ℕ) (w bound errors : ℕ) (listings : List (List (ℕ × F))) → AreErasures w s → length s ≤ bound
      → AreAll (IsEarlier f rank s) (IsGathered f g residue s w errors) listings → IsNearestList f rank g residue s w bound errors listings
  nearest_list rank g residue s w bound errors listings erased few h = record {
    each = all_weaker (IsGathered f g residue s w errors) (IsNearListing f g residue s w bound errors) listings near h.each;
    all = listed;
    rising = h.rising;
  }
    where
      near : (items : List (ℕ × F)) → IsGathered f g residue s w errors items → IsNearListing f g residue s w bound errors items
      near items k =
          let p : PatternOf g residue s w errors items = pattern_of g residue s w errors items erased k in
          record { pattern = p.pattern; near = record { is_pattern = p.is_pattern; remainder = p.remainder; few = p.few; erased = few }; listing = p.listing }

      listed : (e : List (ℕ × F)) → IsNear f g residue s w bound errors e → IsListed f s listings e
      listed e k =
          let l : (items : List (ℕ × F)) × IsListing f s e items = listing_of s w e k.is_pattern in
          let q : IsGathered f g residue s w (errors_outside s e) l.0 = gathered_of g residue s w e l.0 erased k.is_pattern k.remainder l.1 in
          record { items = l.0; among = h.all l.0 (lower_gathered fl g residue s w w (errors_outside s e) errors l.0 (omega arith) k.few q); listing = l.1 }

  -- none where there are too many erasures
  pub no_nearest : (rank : F → ℕ) (g residue : List F) (s : List ℕ) (w bound errors : ℕ) → bound < length s → IsNearestList f rank g residue s w bound errors []
  no_nearest rank g residue s w bound errors many = record {
    each = tt;
    all = λ e k. absurd (omega (arith, many, k.erased));
    rising = tt;
  }
