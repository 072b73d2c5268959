-- A pattern that solves is the one whose listing the search finds.
use Rattle.std.specs.Prelude.{◌↔◌, ◌≢◌}
use Rattle.std.specs.List.{AllByRecursion}
use Rattle.std.proofs.Common.{◌≡◌, ℕ, suc, ◌+◌, ◌<◌, ◌≤◌, List, [], ◌∷◌, ◌++◌, map, length, drop, Option, Some, ◌⊎◌, inl, inr, subst, sym, ap, ◌∙◌, refl, arith}
use Rattle.std.proofs.lemmas.Bool.Decides.{eqb_tells}
use Rattle.std.proofs.lemmas.List.{length-append}
use Rattle.bech32_gf.specs.Field.{Ops, IsField, power}
use Rattle.bech32_gf.specs.laws.Ring.{ring}
use Rattle.bech32_poly.specs.Distinct.{IsAmong, IsOnce}
use Rattle.bech32_poly.specs.Embedding.{Embeds, value_in}
use Rattle.bech32_poly.specs.Pattern.{inside, pattern_polynomial, value_of_pattern_at}
use Rattle.bech32_poly.specs.Polynomial.{IsSamePolynomial, coefficient}
use Rattle.bech32_poly.proofs.Embedding.{embed-zero}
use Rattle.bech32_poly.proofs.PatternSums.{residue_syndrome, value_of_pattern_at-inside}
use Rattle.bech32_poly.proofs.Remainder.{remainder_unique}
use Rattle.bech32_poly.proofs.Zero.{power_not_zero, product_not_zero}
use Rattle.bech32_bch.specs.Erasures.{AreErasures}
use Rattle.bech32_bch.specs.Knock.{without}
use Rattle.bech32_bch.specs.Listing.{IsListing}
use Rattle.bech32_bch.specs.Pattern.{IsPattern, Solves, locations}
use Rattle.bech32_bch.specs.Search.{AreErrorLocations, AreExplained, AreLocationsOutside, AreSumsOf, AreSyndromes, AreUsableRoots, HasLongOrder, known_at}
use Rattle.bech32_bch.proofs.Alone.{All-without, gap_not_zero, length-without_mem, mem-without, mem_or_not}
use Rattle.bech32_bch.proofs.Located.{differ}
use Rattle.bech32_bch.proofs.Patterns.{all_located, at_absent, errors-inside, locations-inside, own_values}
use Rattle.bech32_bch.proofs.Places.{all_of, drop_first, look, mem_left, mem_right, mem_split}
use Rattle.bech32_bch.proofs.Solved.{value}

some_same : {A : Type 0} (x y : A) → Some x ≡ Some y → x ≡ y
some_same x y e = cc e

-- what is told apart inside is told apart
pub apart_inside : {F K : Type 0} (embed : F → K) (retract : K → Option F) → ((x : F) → retract (embed x) ≡ Some x) → (x y : F) → embed x ≡ embed y → x ≡ y
apart_inside embed retract back x y e = some_same x y (sym (back x) ∙ ap retract e ∙ back y)

module _ {F K : Type 0} {f : Ops F} {o : Ops K} (fl : IsField f) (l : IsField o) {embed : F → K} (into : Embeds f o embed) where
  zero_and : (a x u : K) → a ≡ o.zero → u ≡ o.zero → o.add a (o.mul x u) ≡ o.zero
  zero_and a x u e k = rw (e, k) (simp (ring, l))

  value_in-nothing : (p : List F) (x : K) → ((i : ℕ) → coefficient f p i ≡ f.zero) → value_in o embed p x ≡ o.zero
  value_in-nothing [] x h = refl
  value_in-nothing (a ∷ p) x h = zero_and _ x _ (ap embed (h 0) ∙ embed-zero fl l into) (value_in-nothing p x (λ i. h (suc i)))

  -- zeros at the high end change no value
  value_in-same : (p q : List F) (x : K) → IsSamePolynomial f p q → value_in o embed p x ≡ value_in o embed q x
  value_in-same [] q x h = sym (value_in-nothing q x (λ i. sym (h i)))
  value_in-same (a ∷ p) [] x h = value_in-nothing (a ∷ p) x h
  value_in-same (a ∷ p) (c ∷ q) x h =
      let here : embed a ≡ embed c = ap embed (h 0) in
      let rest : value_in o embed p x ≡ value_in o embed q x = value_in-same p q x (λ i. h (suc i)) in
      cc (here, rest)

  inside_below : (w : ℕ) (e : List (ℕ × F)) → AllByRecursion (λ (p : ℕ × F). p.0 < w) e → AllByRecursion (λ (p : ℕ × K). p.0 < w) (inside embed e)
  inside_below w [] h = tt
  inside_below w (p ∷ e) h = (h.0, inside_below w e h.1)

  inside_values : ((x y : F) → embed x ≡ embed y → x ≡ y) → (e : List (ℕ × F)) → AllByRecursion (λ (p : ℕ × F). p.1 ≢ f.zero) e → AllByRecursion (λ (p : ℕ × K). p.1 ≢ o.zero) (inside embed e)
  inside_values apart [] h = tt
  inside_values apart (p ∷ e) h = ((λ z. h.0 (apart _ _ (z ∙ sym (embed-zero fl l into)))), inside_values apart e h.1)

  -- a pattern that solves has the syndromes as sums of powers
  pub sums_of : (b : K) (start count w : ℕ) (g residue : List F) (s : List ℕ) (items : List K) (e : List (ℕ × F)) → ((x y : F) → embed x ≡ embed y → x ≡ y)
      → AreUsableRoots f o embed g b start count w → AreSyndromes o embed b start count residue items → Solves f g residue s w count e → AreSumsOf o b start w s items (inside embed e)
  sums_of b start count w g residue s items e apart usable made h = record {
    pattern = record {
      below = inside_below w e h.pattern.below;
      values = inside_values apart e h.pattern.values;
      once = subst (λ u. IsOnce u) (sym (locations-inside embed e)) h.pattern.once;
    };
    sums = λ t within.
        let low : t < count = omega (arith, within, made.size) in
        made.values t low ∙ sym (value_in-same h.remainder.0 residue (power o b (start + t)) h.remainder.2)
        ∙ residue_syndrome fl l into b g h.remainder.0 e start t (usable.roots t low) (sym (remainder_unique fl g (pattern_polynomial f e) h.remainder.0 h.remainder.1));
    few = omega (arith, h.few, errors-inside embed s e, made.size);
  }

  split_cover : (i : ℕ) (ms : List ℕ) (e : List (ℕ × K)) → AllByRecursion (λ (p : ℕ × K). IsAmong p.0 ms) e → AllByRecursion (λ (p : ℕ × K). (p.0 ≡ i) ⊎ IsAmong p.0 (without i ms)) e
  split_cover i ms [] h = tt
  split_cover i ms (p ∷ e) h = (elim (eqb_tells p.0 i) [ inl y ↦ inl y.1 | inr y ↦ inr (mem-without p.0 i ms h.0 y.1) ], split_cover i ms e h.1)

  module _ (b : K) (start w : ℕ) (s : List ℕ) (items : List K) (found : List ℕ) (order : HasLongOrder o b w) (erased : AreErasures w s) (may : AreErrorLocations w s (length items) found) where
    below : (i : ℕ) → IsAmong i (s ++ found) → i < w
    below i m = elim (mem_split i s found m) [ inl k ↦ look (λ j. j < w) i s erased.below k | inr k ↦ look (λ j. j < w) i found may.below k ]

    not_same : (i : ℕ) (ms : List ℕ) → i < w → AllByRecursion (λ m. (m < w) × (m ≢ i)) ms → AllByRecursion (λ m. power o b i ≢ power o b m) ms
    not_same i [] under a = tt
    not_same i (m ∷ ms) under a = (differ_at i m under a.0.0 (λ k. a.0.1 (sym k)), not_same i ms under a.1)
      where
        differ_at : (i j : ℕ) → i < w → j < w → i ≢ j → power o b i ≢ power o b j
        differ_at = differ l b w order

    room : length (s ++ found) ≤ length items
    room = omega (arith, length-append s found, may.few)

    module _ (e : List (ℕ × F)) (sums : AreSumsOf o b start w s items (inside embed e)) (are : AreLocationsOutside s (inside embed e) found) where
      cover : AllByRecursion (λ (p : ℕ × K). IsAmong p.0 (s ++ found)) (inside embed e)
      cover = all_located (λ i. IsAmong i (s ++ found)) (inside embed e) (all_of (λ i. IsAmong i (s ++ found)) (locations (inside embed e))
          (λ i m. elim (mem_or_not i s) [ inl k ↦ mem_left i s found k | inr n ↦ mem_right i s found ((are i).1 (m, n)) ]))

      -- its values explain what is left of the syndromes
      pub explained : AreExplained o embed b start items (s ++ found) (value_of_pattern_at f e)
      explained i m = record {
        weighs = product_not_zero l _ _ (power_not_zero l (power o b i) (power_not_zero l b order.not_zero i) start) (gap_not_zero l (λ j. power o b j) (power o b i) (without i (s ++ found))
            (not_same i (without i (s ++ found)) (below i m) (All-without (λ j. j < w) i (s ++ found) (all_of (λ j. j < w) (s ++ found) below))));
        is = value l (λ j. power o b j) (λ j. power o (power o b j) start) (length items) (coefficient o items) i (without i (s ++ found)) (inside embed e) sums.sums (omega (arith, length-without_mem i (s ++ found) m, room))
            (split_cover i (s ++ found) (inside embed e) cover) ∙ ap (λ u. o.mul u (known_at o b start (s ++ found) i)) (value_of_pattern_at-inside fl l into e i);
      }

  located_value : (e e' : List (ℕ × F)) (i : ℕ) → AllByRecursion (λ (q : ℕ × F). q.1 ≡ value_of_pattern_at f e q.0) e' → AllByRecursion (λ (p : ℕ × F). p.1 ≢ f.zero) e' → IsAmong i (locations e') → value_of_pattern_at f e i ≢ f.zero
  located_value e [] i own values m = absurd m
  located_value e (p ∷ e') i own values (inl k) = λ z. values.0 (own.0 ∙ ap (value_of_pattern_at f e) (sym k) ∙ z)
  located_value e (p ∷ e') i own values (inr m) = located_value e e' i own.1 values.1 m

  -- a pattern has a value where it has a location
  pub value_where_located : (w : ℕ) (e : List (ℕ × F)) → IsPattern f w e → (i : ℕ) → IsAmong i (locations e) ↔ (value_of_pattern_at f e i ≢ f.zero)
  value_where_located w e h i = (
    (λ m. located_value e e i (own_values fl e h.once) h.values m),
    (λ n. elim (mem_or_not i (locations e)) [ inl m ↦ m | inr k ↦ absurd (n (at_absent fl e i k)) ]),
  )

  module _ (w : ℕ) (s found : List ℕ) (e : List (ℕ × F)) (h : IsPattern f w e) (are : AreLocationsOutside s (inside embed e) found) where
    errors_are : (i : ℕ) → IsAmong i found ↔ ((value_of_pattern_at f e i ≢ f.zero) × (IsAmong i s → ⊥))
    errors_are i = (
      (λ m. let k : IsAmong i (locations (inside embed e)) × (IsAmong i s → ⊥) = (are i).0 m in ((value_where_located w e h i).0 (subst (IsAmong i) (locations-inside embed e) k.0), k.1)),
      (λ k. (are i).1 (subst (IsAmong i) (sym (locations-inside embed e)) ((value_where_located w e h i).1 k.0), k.1)),
    )

    -- the found locations have values
    pub found_values : (i : ℕ) → IsAmong i (drop (length s) (s ++ found)) → value_of_pattern_at f e i ≢ f.zero
    found_values i m = ((errors_are i).0 (subst (IsAmong i) (drop_first s found) m)).0

    -- what is listed is the pattern's listing
    pub listing_of : (bound : ℕ) (items : List (ℕ × F)) → AreErrorLocations w s bound found → items ≡ map (λ i. (i, value_of_pattern_at f e i)) (s ++ found) → IsListing f s e items
    listing_of bound items may is = record { errors = found; in_order = may.in_order; are_errors = errors_are; items_are = is }
