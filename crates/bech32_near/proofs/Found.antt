-- The texts that are found are near, and each stands once.
use Rattle.std.specs.List.{AllByRecursion}
use Rattle.std.specs.Prelude.{◌≢◌}
use Rattle.std.specs.Char.{to_ascii_lowercase}
use Rattle.std.proofs.Common.{◌≡◌, ℕ, ◌+◌, ◌<◌, ◌≤◌, List, [], ◌∷◌, map, length, length-append, ◌⊎◌, inl, inr, subst, sym, ap, ◌∙◌, refl, arith}
use Rattle.std.proofs.lemmas.List.{length-map}
use Rattle.bech32_gf.specs.Fe32 as fe32
use Rattle.bech32_gf.specs.Fe32.{element_of, elements_of, ops}
use Rattle.bech32_gf.specs.declared.gf32.Fe32.{Fe32}
use Rattle.bech32_gf.specs.laws.Fe32Laws.{is_field}
use Rattle.bech32_poly.specs.Distinct.{IsAmong, IsNotAmong, IsOnce}
use Rattle.bech32_poly.specs.Pattern.{value_of_pattern_at}
use Rattle.bech32_poly.specs.Polynomial.{coefficient}
use Rattle.bech32_poly.proofs.Lists.{coefficient-add}
use Rattle.bech32_hrp.specs.Hrp.{IsHrp, lowered}
use Rattle.bech32_hrp.proofs.Lowered.{lowered-lowered}
use Rattle.bech32_checksum.specs.Code.{Code, bech32, bech32m}
use Rattle.bech32_checksum.specs.Encoded.{char_of_element, spelled}
use Rattle.bech32_bch.specs.Erasures.{with_erasures}
use Rattle.bech32_decode.specs.Acceptance.{Accepts, IsAccepted}
use Rattle.bech32_decode.proofs.Grammar.{only-from_IsText}
use Rattle.bech32_decode.proofs.Spelling.{characters-elements, spelled-text}
use Rattle.bech32_detect.proofs.Law.{detects_four_below}
use Rattle.bech32_correction.specs.MendedElements.{mended}
use Rattle.bech32_correction.specs.Mistyped.{HasResidue, IsMendedText}
use Rattle.bech32_correction.proofs.Sums.{length-mended}
use Rattle.bech32_bch.specs.Detection.{DetectsFour}
use Rattle.bech32_near.specs.search.Nearest.{AreRising, IsEarlier, IsNearListing}
use Rattle.bech32_near.specs.NearTexts.{AreNearTexts, AreNearestListings, AsksForTwo, IsNearText, IsSearched, differences_outside}
use Rattle.bech32_near.proofs.Differing.{added_value, differences, few_mended}
use Rattle.bech32_near.proofs.Nearby.{accepted_parts, all_accepted, below, given_erasures, itself_found, listed_value, mended_spelling, near_found, nothing_found, searched_or_not}

-- a mended text has the length of the text
mended_length : (listing : List (ℕ × Fe32)) (text new : List ℕ) → IsMendedText listing text new → length new ≡ length text
mended_length listing text new m =
    let xs : List Fe32 = mended ops listing (elements_of m.data_part) in
    let whole : length text ≡ length m.hrp + length (49 ∷ m.data_part) = ap length m.grammar.split ∙ length-append m.hrp (49 ∷ m.data_part) in
    let part : length (lowered m.hrp) ≡ length m.hrp = length-map m.hrp to_ascii_lowercase in
    let characters : length (map char_of_element xs) ≡ length m.data_part =
    length-map xs char_of_element ∙ length-mended ops listing (elements_of m.data_part) ∙ length-map m.data_part element_of in
    let both : length new ≡ length (lowered m.hrp) + length (49 ∷ map char_of_element xs) = ap length m.spelling ∙ length-append (lowered m.hrp) (49 ∷ map char_of_element xs) in
    omega (arith, whole, part, characters, both)

-- a text is spelled by one list of elements
same_elements : (hrp : List ℕ) (xs ys : List Fe32) → IsHrp hrp → spelled hrp xs ≡ spelled hrp ys → xs ≡ ys
same_elements hrp xs ys is e =
    let parts = only-from_IsText (spelled hrp xs) (lowered hrp) (map char_of_element xs) (spelled-text hrp xs is) (lowered hrp) (map char_of_element ys) e (spelled-text hrp ys is).data_bytes in
    sym (characters-elements xs) ∙ ap elements_of (sym parts.1) ∙ characters-elements ys

only_one : {A : Type 0} (xs : List A) (x : A) → length xs ≤ 1 → IsAmong x xs → xs ≡ x ∷ []
only_one [] x few m = absurd m
only_one (y ∷ []) x few (inl e) = ap (λ u. u ∷ []) (sym e)
only_one (y ∷ []) x few (inr m) = absurd m
only_one (y ∷ z ∷ xs) x few m = absurd (omega (arith, few))

-- Bech32 and Bech32m detect four errors in this many characters
detected : (code : Code) (n : ℕ) → (code ≡ bech32) ⊎ (code ≡ bech32m) → n ≤ 89 → DetectsFour ops code.generator n
detected code n (inl e) short = subst (λ (c : Code). DetectsFour ops c.generator n) (sym e) (detects_four_below n short)
detected code n (inr e) short = subst (λ (c : Code). DetectsFour ops c.generator n) (sym e) (detects_four_below n short)

module _ (code : Code) (bound errors : ℕ) (text given : List ℕ) (size : length code.target ≡ length code.generator) where
  abbrev Found : Type 0
  Found = List (List (ℕ × Fe32) × List ℕ)

  module _ (hrp data_part : List ℕ) (residue : List Fe32) (is : HasResidue code text hrp data_part residue) (searched : IsSearched code data_part given) where
    abbrev xs : List Fe32
    xs = elements_of data_part

    abbrev IsListing : List (ℕ × Fe32) → Type 0
    IsListing items = IsNearListing ops code.generator residue (with_erasures [] given) (length data_part) bound errors items

    abbrev Earlier : List (ℕ × Fe32) → List (ℕ × Fe32) → Type 0
    Earlier x y = IsEarlier ops fe32.value (with_erasures [] given) x y

    low : (items : List (ℕ × Fe32)) → IsListing items → AllByRecursion (λ (p : ℕ × Fe32). p.0 < length xs) items
    low items h =
        subst (λ (n : ℕ). AllByRecursion (λ (p : ℕ × Fe32). p.0 < n) items) (sym (length-map data_part element_of))
        (below code bound errors text hrp data_part given residue items size is searched.1 h).0

    -- ---- each is near

    few_changed : (items : List (ℕ × Fe32)) → IsListing items → differences_outside given xs (mended ops items xs) ≤ errors
    few_changed items h =
        omega (
          arith,
          h.near.few,
          few_mended given xs items h.pattern (low items h)
              (listed_value code bound errors text given size (with_erasures [] given) (length data_part) h.pattern items (given_erasures (length data_part) given searched.1) h.listing),
        )

    pub near_text : (items : List (ℕ × Fe32)) (new : List ℕ) → IsMendedText items text new → IsListing items → IsNearText code bound text given errors new
    near_text items new made h = record {
      hrp = hrp;
      data_part = data_part;
      other_hrp = lowered hrp;
      other_data = map char_of_element (mended ops items xs);
      grammar = is.grammar;
      accepted = subst (λ (t : List ℕ). IsAccepted code t (lowered hrp) (map char_of_element (mended ops items xs)))
          (sym (mended_spelling code bound errors text given size hrp data_part items new is.grammar made))
          (accepted_parts code bound errors text hrp data_part given residue items size is searched.1 h);
      same_hrp = lowered-lowered hrp;
      same_length = mended_length items text new made;
      searched = searched;
      erased = h.near.erased;
      few = subst (λ (ys : List Fe32). differences_outside given xs ys ≤ errors) (sym (characters-elements (mended ops items xs))) (few_changed items h);
    }

    each_near : (found : Found) → AllByRecursion (λ m. IsMendedText m.0 text m.1) found → AllByRecursion (λ l. IsListing l) (map (λ m. m.0) found)
        → AllByRecursion (λ m. IsNearText code bound text given errors m.1) found
    each_near [] made near = tt
    each_near (m ∷ found) made near = (near_text m.0 m.1 made.0 near.0, each_near found made.1 near.1)

    -- ---- each stands once

    same_values : (x y : List (ℕ × Fe32)) → IsListing x → IsListing y → mended ops x xs ≡ mended ops y xs → (i : ℕ) → value_of_pattern_at ops x i ≡ value_of_pattern_at ops y i
    same_values x y h k e i =
        sym (added_value x xs (low x h) i)
        ∙ ap (λ (ys : List Fe32). value_of_pattern_at ops (differences xs ys) i) e
        ∙ added_value y xs (low y k) i

    differ : (x y : List (ℕ × Fe32)) (new other : List ℕ) → IsMendedText x text new → IsMendedText y text other → IsListing x → IsListing y → Earlier x y → new ≢ other
    differ x y new other made another h k before e =
        let spelling : spelled hrp (mended ops x xs) ≡ spelled hrp (mended ops y xs) =
        sym (mended_spelling code bound errors text given size hrp data_part x new is.grammar made) ∙ e ∙ mended_spelling code bound errors text given size hrp data_part y other is.grammar another in
        let less : fe32.value (value_of_pattern_at ops x before.location) < fe32.value (value_of_pattern_at ops y before.location) = before.lower in
        let same : fe32.value (value_of_pattern_at ops x before.location) ≡ fe32.value (value_of_pattern_at ops y before.location) =
        ap fe32.value (same_values x y h k (same_elements hrp (mended ops x xs) (mended ops y xs) is.grammar.is_hrp spelling) before.location) in
        omega arith

    others : (x : List (ℕ × Fe32)) (new : List ℕ) (found : Found) → IsMendedText x text new → IsListing x → AllByRecursion (λ m. IsMendedText m.0 text m.1) found
        → AllByRecursion (λ l. IsListing l) (map (λ m. m.0) found) → AllByRecursion (Earlier x) (map (λ m. m.0) found) → IsNotAmong new (map (λ m. m.1) found)
    others x new [] made h all near before = tt
    others x new (m ∷ found) made h all near before = (differ x m.0 new m.1 made all.0 h near.0 before.0, others x new found made h all.1 near.1 before.1)

    each_once : (found : Found) → AllByRecursion (λ m. IsMendedText m.0 text m.1) found → AllByRecursion (λ l. IsListing l) (map (λ m. m.0) found)
        → AreRising Earlier (map (λ m. m.0) found) → IsOnce (map (λ m. m.1) found)
    each_once [] made near rising = tt
    each_once (m ∷ found) made near rising = (others m.0 m.1 found made.0 near.0 made.1 near.1 rising.0, each_once found made.1 near.1 rising.1)

  all_near : (found : Found) → AreNearestListings code bound text given errors (map (λ m. m.0) found) → AllByRecursion (λ m. IsMendedText m.0 text m.1) found
      → AllByRecursion (λ m. IsNearText code bound text given errors m.1) found
  all_near found h made = elim (searched_or_not code h.data_part given) [
    | inl s ↦ each_near h.hrp h.data_part h.residue h.read s found made (h.nearest s).each
    | inr k ↦ subst (λ (u : Found). AllByRecursion (λ m. IsNearText code bound text given errors m.1) u) (sym (nothing_found code bound errors text given size found (h.none k))) tt
  ]

  all_once : (found : Found) → AreNearestListings code bound text given errors (map (λ m. m.0) found) → AllByRecursion (λ m. IsMendedText m.0 text m.1) found
      → IsOnce (map (λ m. m.1) found)
  all_once found h made = elim (searched_or_not code h.data_part given) [
    | inl s ↦ each_once h.hrp h.data_part h.residue h.read s found made (h.nearest s).each (h.nearest s).rising
    | inr k ↦ subst (λ (u : Found). IsOnce (map (λ m. m.1) u)) (sym (nothing_found code bound errors text given size found (h.none k))) tt
  ]

  -- ---- two errors have one at most

  one_found : (found : Found) (h : AreNearestListings code bound text given errors (map (λ m. m.0) found)) → AsksForTwo code h.data_part given errors → length found ≤ 1
  one_found found h asks =
      omega (arith, h.one (detected code (length h.data_part) asks.0 asks.1) asks.2 asks.3, length-map found (λ m. m.0))

  only_found : (found : Found) (h : AreNearestListings code bound text given errors (map (λ m. m.0) found)) → AllByRecursion (λ m. IsMendedText m.0 text m.1) found
      → AsksForTwo code h.data_part given errors → (other : List ℕ) → IsNearText code bound text given errors other → map (λ m. m.1) found ≡ lowered other ∷ []
  only_found found h made asks other n =
      only_one (map (λ m. m.1) found) (lowered other) (omega (arith, one_found found h asks, length-map found (λ m. m.1))) (near_found code bound errors text given size found h made other n)

  -- ---- of anything that has a listing and a text

  module _ {M : Type 0} (listing_of : M → List (ℕ × Fe32)) (text_of : M → List ℕ) where
    abbrev pairs : List M → Found
    pairs items = map (λ m. (listing_of m, text_of m)) items

    first_of_pairs : (items : List M) → map listing_of items ≡ map (λ m. m.0) (pairs items)
    first_of_pairs [] = refl
    first_of_pairs (m ∷ items) = ap (λ u. listing_of m ∷ u) (first_of_pairs items)

    all_of_pairs : (items : List M) → AllByRecursion (λ m. IsMendedText (listing_of m) text (text_of m)) items → AllByRecursion (λ m. IsMendedText m.0 text m.1) (pairs items)
    all_of_pairs [] a = tt
    all_of_pairs (m ∷ items) a = (a.0, all_of_pairs items a.1)

    pub near_texts : (listings : List (List (ℕ × Fe32))) (items : List M) → AreNearestListings code bound text given errors listings → map listing_of items ≡ listings
        → AllByRecursion (λ m. IsMendedText (listing_of m) text (text_of m)) items → AreNearTexts code bound text given errors (pairs items)
    near_texts listings items h same a =
        let of_pairs : AreNearestListings code bound text given errors (map (λ m. m.0) (pairs items)) =
        subst (λ u. AreNearestListings code bound text given errors u) (sym same ∙ first_of_pairs items) h in
        let each : AllByRecursion (λ m. IsMendedText m.0 text m.1) (pairs items) = all_of_pairs items a in
        record {
          listings = of_pairs;
          each = all_accepted code bound errors text given size (pairs items) of_pairs each;
          near = all_near (pairs items) of_pairs each;
          once = all_once (pairs items) of_pairs each;
          all = near_found code bound errors text given size (pairs items) of_pairs each;
          itself = itself_found code bound errors text given size (pairs items) of_pairs each;
          one = one_found (pairs items) of_pairs;
          only = only_found (pairs items) of_pairs each;
        }

-- where the checksum has no characters nothing is searched
none_searched : (code : Code) (bound errors : ℕ) (text given : List ℕ) → length code.generator ≡ 0 → Accepts code text → AreNearTexts code bound text given errors []
none_searched code bound errors text given none (hrp, data_part, is) = record {
  listings = record {
    hrp = hrp;
    data_part = data_part;
    residue = [];
    read = record {
      grammar = is.grammar;
      text_length = is.text_length;
      data_length = is.data_length;
      remainder = code.target;
      is_remainder = is.has_target;
      residue_is = λ n. sym (coefficient-add is_field code.target code.target n ∙ is_field.add_neg (coefficient ops code.target n));
    };
    nearest = λ s. absurd (omega (arith, s.0, none));
    none = λ k. refl;
    one = λ detects no few. omega arith;
  };
  each = tt;
  near = tt;
  once = tt;
  all = λ other n. absurd (omega (arith, n.searched.0, none));
  itself = λ n. absurd (omega (arith, n.searched.0, none));
  one = λ asks. omega arith;
  only = λ asks other n. absurd (omega (arith, n.searched.0, none));
}

pub none_found : {M : Type 0} (listing_of : M → List (ℕ × Fe32)) (text_of : M → List ℕ) (code : Code) (bound errors : ℕ) (text given : List ℕ) (items : List M) → items ≡ [] → length code.generator ≡ 0
    → Accepts code text → AreNearTexts code bound text given errors (map (λ m. (listing_of m, text_of m)) items)
none_found {M} listing_of text_of code bound errors text given items e none accepts =
    subst (λ (u : List M). AreNearTexts code bound text given errors (map (λ m. (listing_of m, text_of m)) u)) (sym e) (none_searched code bound errors text given none accepts)
