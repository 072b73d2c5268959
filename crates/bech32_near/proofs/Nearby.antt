-- What the listings of a text that was read say of the texts near it.
use Rattle.std.specs.List.{AllByRecursion}
use Rattle.std.specs.Prelude.{IfOk}
use Rattle.std.specs.Char.{to_ascii_lowercase}
use Rattle.std.proofs.Common.{◌≡◌, ℕ, ◌+◌, ◌<◌, ◌≤◌, List, [], ◌∷◌, ◌++◌, map, length, length-append, Some, Result, Ok, Err, ◌⊎◌, inl, inr, subst, sym, ap, ◌∙◌, refl, arith}
use Rattle.std.proofs.Math.Decide.{dec_lt}
use Rattle.std.proofs.lemmas.List.{length-map}
use Rattle.bech32_gf.specs.Fe32 as fe32
use Rattle.bech32_gf.specs.Fe32.{element_of, elements_of, ops}
use Rattle.bech32_gf.specs.declared.gf32.Fe32.{Fe32}
use Rattle.bech32_gf.specs.laws.Fe32Laws.{is_field}
use Rattle.bech32_poly.specs.Distinct.{IsAmong, IsOnce}
use Rattle.bech32_poly.specs.Pattern.{value_of_pattern_at}
use Rattle.bech32_poly.specs.Division.{remainder_of}
use Rattle.bech32_poly.specs.Polynomial.{IsSamePolynomial, add, appended}
use Rattle.bech32_poly.specs.Remainder.{IsRemainder}
use Rattle.bech32_poly.proofs.Remainder.{length-remainder_of, remainder_exists}
use Rattle.bech32_hrp.specs.Hrp.{lowered}
use Rattle.bech32_checksum.specs.Code.{Code}
use Rattle.bech32_checksum.specs.Encoded.{char_of_element, spelled}
use Rattle.bech32_checksum.specs.TextPolynomial.{text_polynomial}
use Rattle.bech32_bch.specs.Erasures.{AreErasures, with_erasures}
use Rattle.bech32_bch.specs.Listing.{IsListing}
use Rattle.bech32_bch.specs.Pattern.{HasRemainder}
use Rattle.bech32_bch.proofs.Alone.{mem_or_not}
use Rattle.bech32_bch.proofs.Patterns.{all_located, at_absent, at_listed, locations_listed}
use Rattle.bech32_bch.proofs.Places.{all_push, look, mem_left, mem_right, once-append}
use Rattle.bech32_bch.proofs.Rising.{once_in_order}
use Rattle.bech32_decode.specs.Acceptance.{Accepts, IsAccepted}
use Rattle.bech32_decode.specs.Refusals.{HasLengths}
use Rattle.bech32_decode.specs.Text.{IsText}
use Rattle.bech32_decode.proofs.Grammar.{only-from_IsText}
use Rattle.bech32_decode.proofs.Spelling.{lower_text}
use Rattle.bech32_correction.specs.Given.{AreWithin}
use Rattle.bech32_correction.specs.MendedElements.{mended}
use Rattle.bech32_correction.specs.Mistyped.{AreInside, HasResidue, IsMendedText, IsPlacedIn, question_of}
use Rattle.bech32_bch.specs.Detection.{DetectsFour}
use Rattle.bech32_near.specs.search.Nearest.{AreNearest, AreRising, IsEarlier, IsListed, IsNear, IsNearListing}
use Rattle.bech32_near.specs.NearTexts.{AreNearestListings, BeginsWith, IsNearText, IsSearch, IsSearched, IsSearcherOf, differences_outside}
use Rattle.bech32_lookup.specs.Question.{Question}
use Rattle.bech32_correction.proofs.Accepted.{front, in_parts, mended_accepted}
use Rattle.bech32_correction.proofs.Outcomes.{no_elements}
use Rattle.bech32_lookup.proofs.Added.{erasures_more}
use Rattle.bech32_near.proofs.Differing.{differences, few_outside, is_pattern, mended_to, none_differ, residue_left}
use Rattle.bech32_lookup.proofs.Mends.{mends}
use Rattle.bech32_near.proofs.NearestListing.{each_below}
use Rattle.bech32_near.proofs.NearestPatterns.{gathered_of, no_nearest}

-- ---- correctors

-- a text that was read leaves what is left of its remainder
pub residue_left_by : (code : Code) (text hrp data_part : List ℕ) (residue : List Fe32) → IsText text hrp data_part → HasLengths code (length text) (length data_part)
    → IsSamePolynomial ops residue (add ops (remainder_of ops code.generator (text_polynomial hrp (elements_of data_part))) code.target)
    → HasResidue code text hrp data_part residue
residue_left_by code text hrp data_part residue is lengths same = record {
  grammar = is;
  text_length = lengths.0;
  data_length = lengths.1;
  remainder = remainder_of ops code.generator (text_polynomial hrp (elements_of data_part));
  is_remainder = remainder_exists is_field code.generator (text_polynomial hrp (elements_of data_part));
  residue_is = same;
}

-- a checksum of no characters accepts it
pub accepted_by_none : (code : Code) (text hrp data_part : List ℕ) → IsText text hrp data_part → HasLengths code (length text) (length data_part)
    → length code.target ≡ length code.generator → length code.generator ≡ 0 → Accepts code text
accepted_by_none code text hrp data_part is lengths size none =
    let p = text_polynomial hrp (elements_of data_part) in
    let r = remainder_of ops code.generator p in
    let short : length r ≡ 0 = length-remainder_of is_field code.generator p ∙ none in
    let same : r ≡ code.target = no_elements r short ∙ sym (no_elements code.target (size ∙ none)) in (
      hrp,
      data_part,
      record {
        grammar = is;
        text_length = lengths.0;
        data_length = lengths.1;
        has_target = subst (IsRemainder ops code.generator p) same (remainder_exists is_field code.generator p);
      },
    )

-- the corrector of what a text leaves searches it
pub search-from_residue : (code : Code) (text hrp data_part : List ℕ) (residue : List Fe32) (c : Question)
    → c ≡ record { residue = residue; window = length data_part; erasures = [] }
    → 0 < length code.generator → HasResidue code text hrp data_part residue → IsSearch code text (Some c)
search-from_residue code text hrp data_part residue c whole some read = subst (λ (q : Question). IsSearch code text (Some q)) (sym whole) (
  some,
  record { hrp = hrp; data_part = data_part; read = read; window = refl; fresh = refl },
)

-- ---- listings

inside_or_not : (n : ℕ) (given : List ℕ) → AllByRecursion (λ i. i < n) given ⊎ (AllByRecursion (λ i. i < n) given → ⊥)
inside_or_not n [] = inl tt
inside_or_not n (i ∷ given) = step (dec_lt i n) (inside_or_not n given)
  where
    step : Dec (i < n) → AllByRecursion (λ j. j < n) given ⊎ (AllByRecursion (λ j. j < n) given → ⊥) → AllByRecursion (λ j. j < n) (i ∷ given) ⊎ (AllByRecursion (λ j. j < n) (i ∷ given) → ⊥)
    step (yes low) (inl a) = inl (low, a)
    step (yes low) (inr k) = inr (λ a. k a.1)
    step (no k) r = inr (λ a. k a.0)

pub searched_or_not : (code : Code) (data_part given : List ℕ) → IsSearched code data_part given ⊎ (IsSearched code data_part given → ⊥)
searched_or_not code data_part given = step (dec_lt 0 (length code.generator)) (inside_or_not (length data_part) given)
  where
    step : Dec (0 < length code.generator) → AreInside data_part given ⊎ (AreInside data_part given → ⊥) → IsSearched code data_part given ⊎ (IsSearched code data_part given → ⊥)
    step (yes some) (inl a) = inl (some, a)
    step (yes some) (inr k) = inr (λ s. k s.1)
    step (no k) r = inr (λ s. k s.0)

all-append : {A : Type 0} (P : A → Type 0) (xs ys : List A) → AllByRecursion P xs → AllByRecursion P ys → AllByRecursion P (xs ++ ys)
all-append P [] ys a b = b
all-append P (x ∷ xs) ys a b = (a.0, all-append P xs ys a.1 b)

pub all_weaker : {A : Type 0} (P Q : A → Type 0) (xs : List A) → ((x : A) → P x → Q x) → AllByRecursion P xs → AllByRecursion Q xs
all_weaker P Q [] h a = tt
all_weaker P Q (x ∷ xs) h a = (h x a.0, all_weaker P Q xs h a.1)

-- what is listed lies below the window, and leaves the residue
pub listed_below : (g residue : List Fe32) (s : List ℕ) (w bound errors : ℕ) (items : List (ℕ × Fe32)) → AreErasures w s → IsNearListing ops g residue s w bound errors items
    → AllByRecursion (λ (p : ℕ × Fe32). p.0 < w) items × HasRemainder ops g residue items
listed_below g residue s w bound errors items erased h =
    let q = gathered_of is_field g residue s w h.pattern items erased h.near.is_pattern h.near.remainder h.listing in (
      subst (λ u. AllByRecursion (λ (p : ℕ × Fe32). p.0 < w) u) (sym q.parts)
          (all-append (λ (p : ℕ × Fe32). p.0 < w) q.given q.errors
          (all_located (λ i. i < w) q.given (subst (λ u. AllByRecursion (λ i. i < w) u) (sym q.placed) erased.below))
          (each_below ops s w q.errors q.each)),
      q.remainder,
    )

pub given_erasures : (w : ℕ) (given : List ℕ) → AllByRecursion (λ i. i < w) given → AreErasures w (with_erasures [] given)
given_erasures w given inside = erasures_more w [] given (record { once = tt; below = tt }) inside

-- of a text that was read, a listing makes a text that the checksum accepts
module _ (code : Code) (bound errors : ℕ) (text hrp data_part given : List ℕ) (residue : List Fe32) (items : List (ℕ × Fe32)) (size : length code.target ≡ length code.generator)
    (is : HasResidue code text hrp data_part residue) (inside : AreInside data_part given) (h : IsNearListing ops code.generator residue (with_erasures [] given) (length data_part) bound errors items) where
  pub below : AllByRecursion (λ (p : ℕ × Fe32). p.0 < length data_part) items × HasRemainder ops code.generator residue items
  below = listed_below code.generator residue (with_erasures [] given) (length data_part) bound errors items (given_erasures (length data_part) given inside) h

  pub placed_in : IsPlacedIn text items
  placed_in = (hrp, data_part, is.grammar, below.0)

  pub accepted_parts : IsAccepted code (spelled hrp (mended ops items (elements_of data_part))) (lowered hrp) (map char_of_element (mended ops items (elements_of data_part)))
  accepted_parts = mended_accepted code text hrp data_part residue items is below.0 (mends is_field (λ x. refl) code.generator code.target residue items size below.1)

  pub makes_accepted : Accepts code (spelled hrp (mended ops items (elements_of data_part)))
  makes_accepted = (lowered hrp, map char_of_element (mended ops items (elements_of data_part)), accepted_parts)

-- ---- listings of a text

module _ (code : Code) (bound errors : ℕ) (text given : List ℕ) (size : length code.target ≡ length code.generator) where
  pub all_placed : (listings : List (List (ℕ × Fe32))) → AreNearestListings code bound text given errors listings → AllByRecursion (λ l. IsPlacedIn text l) listings
  all_placed listings h = elim (searched_or_not code h.data_part given) [
    | inl s ↦ all_weaker (IsNearListing ops code.generator h.residue (with_erasures [] given) (length h.data_part) bound errors) (λ l. IsPlacedIn text l) listings
        (λ l near. placed_in code bound errors text h.hrp h.data_part given h.residue l size h.read s.1 near) (h.nearest s).each
    | inr k ↦ subst (λ u. AllByRecursion (λ l. IsPlacedIn text l) u) (sym (h.none k)) tt
  ]

  -- a mended text is spelled by the text's own parts
  pub mended_spelling : (hrp data_part : List ℕ) (listing : List (ℕ × Fe32)) (new : List ℕ) → IsText text hrp data_part → IsMendedText listing text new
      → new ≡ spelled hrp (mended ops listing (elements_of data_part))
  mended_spelling hrp data_part listing new is m =
      let parts = only-from_IsText text hrp data_part is m.hrp m.data_part m.grammar.split m.grammar.data_bytes in
      m.spelling ∙ (λ i. spelled (parts.0 i) (mended ops listing (elements_of (parts.1 i))))

  -- found listings with the texts that they mend
  abbrev Found : Type 0
  Found = List (List (ℕ × Fe32) × List ℕ)

  pub nothing_found : (found : Found) → map (λ m. m.0) found ≡ [] → found ≡ []
  nothing_found [] e = refl
  nothing_found (m ∷ found) e = absurd (cc e)

  each_accepted : (hrp data_part : List ℕ) (residue : List Fe32) (found : Found) → HasResidue code text hrp data_part residue → AreInside data_part given
      → AllByRecursion (IsNearListing ops code.generator residue (with_erasures [] given) (length data_part) bound errors) (map (λ m. m.0) found)
      → AllByRecursion (λ m. IsMendedText m.0 text m.1) found → AllByRecursion (λ m. IsMendedText m.0 text m.1 × Accepts code m.1) found
  each_accepted hrp data_part residue [] is inside near a = tt
  each_accepted hrp data_part residue (m ∷ found) is inside near a = (
    (
      a.0,
      subst (Accepts code) (sym (mended_spelling hrp data_part m.0 m.1 is.grammar a.0)) (makes_accepted code bound errors text hrp data_part given residue m.0 size is inside near.0),
    ),
    each_accepted hrp data_part residue found is inside near.1 a.1,
  )

  pub all_accepted : (found : Found) → AreNearestListings code bound text given errors (map (λ m. m.0) found) → AllByRecursion (λ m. IsMendedText m.0 text m.1) found
      → AllByRecursion (λ m. IsMendedText m.0 text m.1 × Accepts code m.1) found
  all_accepted found h a = elim (searched_or_not code h.data_part given) [
    | inl s ↦ each_accepted h.hrp h.data_part h.residue found h.read s.1 (h.nearest s).each a
    | inr k ↦ subst (λ u. AllByRecursion (λ m. IsMendedText m.0 text m.1 × Accepts code m.1) u) (sym (nothing_found found (h.none k))) tt
  ]

  -- ---- each near text is found

  -- the text of a listing that was found
  found_text : (hrp data_part : List ℕ) (items : List (ℕ × Fe32)) (new : List ℕ) (found : Found) → IsText text hrp data_part → AllByRecursion (λ m. IsMendedText m.0 text m.1) found
      → new ≡ spelled hrp (mended ops items (elements_of data_part)) → IsAmong items (map (λ m. m.0) found) → IsAmong new (map (λ m. m.1) found)
  found_text hrp data_part items new [] is a e m = m
  found_text hrp data_part items new (x ∷ found) is a e (inl k) = inl (e ∙ ap (λ u. spelled hrp (mended ops u (elements_of data_part))) k ∙ sym (mended_spelling hrp data_part x.0 x.1 is a.0))
  found_text hrp data_part items new (x ∷ found) is a e (inr m) = inr (found_text hrp data_part items new found is a.1 e m)

  -- the values of a listing are its pattern's
  pub listed_value : (s : List ℕ) (w : ℕ) (e items : List (ℕ × Fe32)) → AreErasures w s → IsListing ops s e items → (i : ℕ) → value_of_pattern_at ops items i ≡ value_of_pattern_at ops e i
  listed_value s w e items erased h i = ap (λ u. value_of_pattern_at ops u i) h.items_are ∙ (elim (mem_or_not i (s ++ h.errors)) [
    | inl m ↦ at_listed is_field (value_of_pattern_at ops e) (s ++ h.errors) i listed_once m
    | inr k ↦ at_absent is_field (map (λ j. (j, value_of_pattern_at ops e j)) (s ++ h.errors)) i (λ m. k (subst (λ u. IsAmong i u) (locations_listed (value_of_pattern_at ops e) (s ++ h.errors)) m)) ∙ sym (nothing k)
  ])
    where
      listed_once : IsOnce (s ++ h.errors)
      listed_once = once-append s h.errors erased.once (once_in_order h.errors h.in_order) (λ j m n. ((h.are_errors j).0 n).1 m)

      nothing : (IsAmong i (s ++ h.errors) → ⊥) → value_of_pattern_at ops e i ≡ fe32.zero
      nothing k = elim (is_field.same_or_not (value_of_pattern_at ops e i) fe32.zero) [
        | yes z ↦ z
        | no n ↦ absurd (k (mem_right i s h.errors ((h.are_errors i).1 (n, λ m. k (mem_left i s h.errors m)))))
      ]

  -- two texts of one human-readable part and one length have as many elements
  same_count : (other hrp data_part other_hrp other_data : List ℕ) → IsText text hrp data_part → IsText other other_hrp other_data → lowered other_hrp ≡ lowered hrp → length other ≡ length text
      → length (elements_of data_part) ≡ length (elements_of other_data)
  same_count other hrp data_part other_hrp other_data is other_is same_hrp same_length =
      let whole : length text ≡ length hrp + length (49 ∷ data_part) = ap (λ (u : List ℕ). length u) is.split ∙ length-append hrp (49 ∷ data_part) in
      let other_whole : length other ≡ length other_hrp + length (49 ∷ other_data) = ap (λ (u : List ℕ). length u) other_is.split ∙ length-append other_hrp (49 ∷ other_data) in
      let fronts : length (lowered other_hrp) ≡ length (lowered hrp) = ap (λ (u : List ℕ). length u) same_hrp in
      omega (arith, length-map hrp to_ascii_lowercase, length-map other_hrp to_ascii_lowercase, length-map data_part element_of, length-map other_data element_of)

  module _ (hrp data_part : List ℕ) (residue : List Fe32) (found : Found) (read : HasResidue code text hrp data_part residue) (inside : AreInside data_part given)
      (nearest : AreNearest code bound (question_of data_part residue given) errors (map (λ m. m.0) found)) (a : AllByRecursion (λ m. IsMendedText m.0 text m.1) found)
      (other other_hrp other_data : List ℕ) (is : IsAccepted code other other_hrp other_data) (same_hrp : lowered other_hrp ≡ lowered hrp) (same_length : length other ≡ length text)
      (erased : length (with_erasures [] given) ≤ bound) (few : differences_outside given (elements_of data_part) (elements_of other_data) ≤ errors) where
    abbrev xs : List Fe32
    xs = elements_of data_part

    abbrev ys : List Fe32
    ys = elements_of other_data

    sizes : length xs ≡ length ys
    sizes = same_count other hrp data_part other_hrp other_data read.grammar is.grammar same_hrp same_length

    pattern_near : IsNear ops code.generator residue (with_erasures [] given) (length data_part) bound errors (differences xs ys)
    pattern_near = record {
      is_pattern = is_pattern (length data_part) xs ys (length-map data_part element_of);
      remainder = residue_left code.generator code.target read.remainder residue (front (lowered hrp)) xs ys sizes
          (subst (λ p. IsRemainder ops code.generator p read.remainder) (in_parts hrp xs) read.is_remainder)
          (subst (λ p. IsRemainder ops code.generator p code.target) (in_parts other_hrp ys ∙ ap (λ (low : List ℕ). appended (front low) ys) same_hrp) is.has_target)
          read.residue_is;
      few = subst (λ n. n ≤ errors) (sym (few_outside given xs ys)) few;
      erased = erased;
    }

    listed : IsListed ops (with_erasures [] given) (map (λ m. m.0) found) (differences xs ys)
    listed = nearest.all (differences xs ys) pattern_near

    other_spelling : lowered other ≡ spelled hrp (mended ops listed.items xs)
    other_spelling =
        lower_text other other_hrp other_data is.grammar
        ∙ ap (λ (low : List ℕ). low ++ (49 ∷ map char_of_element ys)) same_hrp
        ∙ ap (λ (l : List Fe32). spelled hrp l) (sym (mended_to xs ys listed.items sizes
        (λ i low. listed_value (with_erasures [] given) (length data_part) (differences xs ys) listed.items (given_erasures (length data_part) given inside) listed.listing i)))

    pub other_found : IsAmong (lowered other) (map (λ m. m.1) found)
    other_found = found_text hrp data_part listed.items (lowered other) found read.grammar a other_spelling listed.among

    -- where nothing differs, it is the first
    pub other_first : differences xs ys ≡ [] → BeginsWith (lowered other) (map (λ m. m.1) found)
    other_first same = step found a nearest.rising listed.among
      where
        nothing : (i : ℕ) → value_of_pattern_at ops listed.items i ≡ fe32.zero
        nothing i =
            listed_value (with_erasures [] given) (length data_part) (differences xs ys) listed.items (given_erasures (length data_part) given inside) listed.listing i
            ∙ ap (λ u. value_of_pattern_at ops u i) same

        step : (all : Found) → AllByRecursion (λ m. IsMendedText m.0 text m.1) all → AreRising (IsEarlier ops fe32.value (with_erasures [] given)) (map (λ m. m.0) all)
            → IsAmong listed.items (map (λ m. m.0) all) → BeginsWith (lowered other) (map (λ m. m.1) all)
        step [] made rising m = absurd m
        step (x ∷ all) made rising (inl e) =
            other_spelling ∙ ap (λ u. spelled hrp (mended ops u (elements_of data_part))) e ∙ sym (mended_spelling hrp data_part x.0 x.1 read.grammar made.0)
        step (x ∷ all) made rising (inr m) =
            let before : IsEarlier ops fe32.value (with_erasures [] given) x.0 listed.items = look (IsEarlier ops fe32.value (with_erasures [] given) x.0) listed.items (map (λ y. y.0) all) rising.0 m in
            let less : fe32.value (value_of_pattern_at ops x.0 before.location) < fe32.value (value_of_pattern_at ops listed.items before.location) = before.lower in
            let none : fe32.value (value_of_pattern_at ops listed.items before.location) ≡ 0 = ap fe32.value (nothing before.location) in
            absurd (omega arith)

  pub near_found : (found : Found) → AreNearestListings code bound text given errors (map (λ m. m.0) found) → AllByRecursion (λ m. IsMendedText m.0 text m.1) found
      → (other : List ℕ) → IsNearText code bound text given errors other → IsAmong (lowered other) (map (λ m. m.1) found)
  near_found found h a other n =
      let parts = only-from_IsText text h.hrp h.data_part h.read.grammar n.hrp n.data_part n.grammar.split n.grammar.data_bytes in
      let searched : IsSearched code h.data_part given = subst (λ (d : List ℕ). IsSearched code d given) parts.1 n.searched in
      other_found h.hrp h.data_part h.residue found h.read searched.1 (h.nearest searched) a other n.other_hrp n.other_data n.accepted (n.same_hrp ∙ ap lowered parts.0) n.same_length n.erased
      (subst (λ (d : List ℕ). differences_outside given (elements_of d) (elements_of n.other_data) ≤ errors) parts.1 n.few)

  pub itself_found : (found : Found) → AreNearestListings code bound text given errors (map (λ m. m.0) found) → AllByRecursion (λ m. IsMendedText m.0 text m.1) found
      → IsNearText code bound text given errors text → BeginsWith (lowered text) (map (λ m. m.1) found)
  itself_found found h a n =
      let parts = only-from_IsText text h.hrp h.data_part h.read.grammar n.hrp n.data_part n.grammar.split n.grammar.data_bytes in
      let own = only-from_IsText text h.hrp h.data_part h.read.grammar n.other_hrp n.other_data n.accepted.grammar.split n.accepted.grammar.data_bytes in
      let searched : IsSearched code h.data_part given = subst (λ (d : List ℕ). IsSearched code d given) parts.1 n.searched in
      other_first h.hrp h.data_part h.residue found h.read searched.1 (h.nearest searched) a text n.other_hrp n.other_data n.accepted (n.same_hrp ∙ ap lowered parts.0) n.same_length n.erased
      (subst (λ (d : List ℕ). differences_outside given (elements_of d) (elements_of n.other_data) ≤ errors) parts.1 n.few)
      (ap (λ (d : List ℕ). differences (elements_of h.data_part) (elements_of d)) own.1 ∙ none_differ (elements_of h.data_part))

-- ---- what a corrector lists

module _ (code : Code) (bound errors : ℕ) (text given : List ℕ) (c : Question) (some : 0 < length code.generator) (is : IsSearcherOf code text c) (listings : List (List (ℕ × Fe32))) where
  pub listings-from_all : AllByRecursion (λ i. i < c.window) given
      → AreNearest code bound (record { residue = c.residue; window = c.window; erasures = with_erasures [] given }) errors listings
      → (DetectsFour ops code.generator c.window → given ≡ [] → errors ≤ 2 → length listings ≤ 1)
      → AreNearestListings code bound text given errors listings
  listings-from_all inside all one = record {
    hrp = is.hrp;
    data_part = is.data_part;
    residue = c.residue;
    read = is.read;
    nearest = λ s. subst (λ (n : ℕ). AreNearest code bound (record { residue = c.residue; window = n; erasures = with_erasures [] given }) errors listings) is.window all;
    none = λ k. absurd (k (some, subst (λ (n : ℕ). AllByRecursion (λ i. i < n) given) is.window inside));
    one = λ detects no few. one (subst (λ (n : ℕ). DetectsFour ops code.generator n) (sym is.window) detects) no few;
  }

  pub listings-from_outside : (AreWithin c.window bound given → ⊥) → listings ≡ [] → AreNearestListings code bound text given errors listings
  listings-from_outside outside none = record {
    hrp = is.hrp;
    data_part = is.data_part;
    residue = c.residue;
    read = is.read;
    nearest = λ s. subst (λ u. AreNearest code bound (question_of is.data_part c.residue given) errors u) (sym none)
        (no_nearest is_field fe32.value code.generator c.residue (with_erasures [] given) (length is.data_part) bound errors (more s.1));
    none = λ k. none;
    one = λ detects no few. omega (arith, ap (λ u. length u) none);
  }
    where
      more : AreInside is.data_part given → bound < length (with_erasures [] given)
      more inside = elim (dec_lt bound (length (with_erasures [] given))) [
        | yes m ↦ m
        | no few ↦ absurd (outside (subst (λ (n : ℕ). AllByRecursion (λ i. i < n) given) (sym is.window) inside, omega (arith, few)))
      ]

-- ---- of what a call returned

pub one_of : {R E : Type 0} (D : Type 0) (count : R → ℕ) (given : List ℕ) (errors : ℕ) (r : Result R E) → IfOk r (λ l. D → with_erasures [] given ≡ [] → errors ≤ 2 → count l ≤ 1)
    → IfOk r (λ l. D → given ≡ [] → errors ≤ 2 → count l ≤ 1)
one_of D count given errors (Ok l) h = λ detects no few. h detects (ap (with_erasures []) no) few
one_of D count given errors (Err e) h = tt

pub listings_returned : {R E : Type 0} (items : R → List (List (ℕ × Fe32))) (code : Code) (bound errors : ℕ) (given : List ℕ) (c : Question) (r : Result R E) → AllByRecursion (λ i. i < c.window) given
    → IfOk r (λ l. AreNearest code bound (record { residue = c.residue; window = c.window; erasures = with_erasures [] given }) errors (items l))
    → IfOk r (λ l. DetectsFour ops code.generator c.window → given ≡ [] → errors ≤ 2 → length (items l) ≤ 1)
    → IfOk r (λ l. (text : List ℕ) → 0 < length code.generator → IsSearcherOf code text c → AreNearestListings code bound text given errors (items l))
listings_returned items code bound errors given c (Ok l) inside all one = λ text some is. listings-from_all code bound errors text given c some is (items l) inside all one
listings_returned items code bound errors given c (Err e) inside all one = tt

-- ---- texts one after another

map_behind : {M B : Type 0} (f : M → B) (xs : List M) (m : M) → map f (xs ++ m ∷ []) ≡ map f xs ++ f m ∷ []
map_behind f [] m = refl
map_behind f (x ∷ xs) m = ap (λ u. f x ∷ u) (map_behind f xs m)

-- with one text more, these are the texts of one listing more
pub texts_more : {M : Type 0} (listing_of : M → List (ℕ × Fe32)) (text_of : M → List ℕ) (text : List ℕ) (listings : List (List (ℕ × Fe32))) (item : List (ℕ × Fe32)) (before after : List M) (m : M)
    → IsPlacedIn text item → listing_of m ≡ item
    → ((hrp data_part : List ℕ) → IsText text hrp data_part → text_of m ≡ spelled hrp (mended ops item (elements_of data_part)))
    → after ≡ before ++ m ∷ [] → (map listing_of before ≡ listings) × AllByRecursion (λ x. IsMendedText (listing_of x) text (text_of x)) before
    → (map listing_of after ≡ listings ++ item ∷ []) × AllByRecursion (λ x. IsMendedText (listing_of x) text (text_of x)) after
texts_more {M} listing_of text_of text listings item before after m (hrp, data_part, grammar, inside) same spelling behind (listed, made) = (
  ap (map listing_of) behind ∙ map_behind listing_of before m ∙ ap (λ u. u ++ listing_of m ∷ []) listed ∙ ap (λ u. listings ++ u ∷ []) same,
  subst (λ (u : List M). AllByRecursion (λ x. IsMendedText (listing_of x) text (text_of x)) u) (sym behind)
      (all_push (λ x. IsMendedText (listing_of x) text (text_of x)) before m made (record {
        hrp = hrp;
        data_part = data_part;
        grammar = grammar;
        spelling = spelling hrp data_part grammar ∙ ap (λ (u : List (ℕ × Fe32)). spelled hrp (mended ops u (elements_of data_part))) (sym same);
      })),
)

-- what is so of all of a list is so of each
pub all_within : {A : Type 0} (P : A → Type 0) (before : List A) (x : A) (behind : List A) → AllByRecursion P (before ++ x ∷ behind) → P x
all_within P [] x behind h = h.0
all_within P (y ∷ before) x behind h = all_within P before x behind h.1
