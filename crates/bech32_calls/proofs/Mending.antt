-- A text is mended in one way, and nothing is wrong where it is to be mended and the buffers have room.
use Rattle.std.specs.Prelude.{map}
use Rattle.std.specs.List.{AllByRecursion}
use Rattle.std.proofs.Common.{◌≡◌, ◌<◌, ◌≤◌, ◌+◌, ◌⊎◌, ℕ, List, [], ◌∷◌, ◌++◌, None, Some, length, length-append, inl, inr, refl, sym, ap, subst, ◌∙◌, arith}
use Rattle.std.proofs.lemmas.List.{length-map}
use Rattle.bech32_gf.specs.Fe32.{elements_of, ops, value}
use Rattle.bech32_gf.specs.declared.gf32.Fe32.{Fe32}
use Rattle.bech32_poly.specs.Distinct.{IsAmong}
use Rattle.bech32_poly.specs.Pattern.{value_of_pattern_at}
use Rattle.bech32_poly.specs.Polynomial.{IsSamePolynomial, add, coefficient}
use Rattle.bech32_poly.specs.Remainder.{IsRemainder}
use Rattle.bech32_hrp.specs.Hrp.{lowered}
use Rattle.bech32_checksum.specs.Code.{Code, bech32, bech32m}
use Rattle.bech32_checksum.specs.TextPolynomial.{text_polynomial}
use Rattle.bech32_bch.specs.Erasures.{with_erasures}
use Rattle.bech32_bch.specs.Listing.{IsSound}
use Rattle.bech32_bch.specs.Pattern.{HasRemainder, IsSamePattern, Solves, errors_outside, locations}
use Rattle.bech32_bch.proofs.Places.{once_fits}
use Rattle.bech32_bch.proofs.Rising.{once_in_order}
use Rattle.bech32_lookup.specs.Carried.{of_checksum}
use Rattle.bech32_decode.specs.Acceptance.{Accepts}
use Rattle.bech32_decode.specs.Checked.{IsRefusedByChecksum}
use Rattle.bech32_decode.specs.Refusals.{HasLengths, IsChecksumRefusal}
use Rattle.bech32_decode.specs.Text.{IsInGrammar, IsText, text_refusal}
use Rattle.bech32_decode.proofs.Decoding.{not_valid, one_remainder, valid-from_accepts}
use Rattle.bech32_decode.proofs.Grammar.{only-from_IsText, text_refusal-none}
use Rattle.bech32_encode.specs.Buffers.{IsPut}
use Rattle.bech32_refusals.specs.declared.error.ChecksumError.{ChecksumError}
use Rattle.bech32_refusals.specs.declared.error.ChecksumError.TheVariants.{CodeLength, InvalidLength, InvalidResidue}
use Rattle.bech32_correction.specs.MendedElements.{EndsIn, mended as mended_of}
use Rattle.bech32_correction.specs.Mistyped.{AreInside, HasNoListing, HasResidue, IsListingOf, IsRefusedFor, question_of}
use Rattle.bech32_correction.proofs.Sound.{sound_of}
use Rattle.bech32_correction.proofs.Texts.{IsMendable, ends-lowered, mendable-from_accepts, mendable-from_listing, mended_text-from_ends}
use Rattle.bech32_calls.specs.Correct.{CanMend, IsCorrectFault, IsListingFault, IsMending, IsResidueFault, LacksRoomForMended, PutsMended, bound}
use Rattle.bech32_calls.specs.Faults.{IsTextFault}
use Rattle.bech32_calls.specs.declared.refusal.Refusal.{Refusal}
use Rattle.bech32_calls.specs.declared.refusal.Refusal.TheVariants.{NotUtf8, Text, Checksum, NoCorrection, NoRoom}
use Rattle.bech32_calls.proofs.Letters.{IsUtf8-from_text}

-- ---- what solves one of two residues that are the same polynomial solves the other

module _ (g residue residue' : List Fe32) (same : IsSamePolynomial ops residue residue') where
  remainder-same : (e : List (ℕ × Fe32)) → HasRemainder ops g residue e → HasRemainder ops g residue' e
  remainder-same e h = (h.0, h.1, λ i. h.2 i ∙ same i)

  remainder-back : (e : List (ℕ × Fe32)) → HasRemainder ops g residue' e → HasRemainder ops g residue e
  remainder-back e h = (h.0, h.1, λ i. h.2 i ∙ sym (same i))

  solves-same : (s : List ℕ) (w n : ℕ) (e : List (ℕ × Fe32)) → Solves ops g residue s w n e → Solves ops g residue' s w n e
  solves-same s w n e h = record { pattern = h.pattern; remainder = remainder-same e h.remainder; few = h.few }

  sound-same : (s : List ℕ) (w n : ℕ) (listing : List (ℕ × Fe32)) → IsSound ops g residue s w n listing → IsSound ops g residue' s w n listing
  sound-same s w n listing h = record {
    pattern = h.pattern;
    solves = solves-same s w n h.pattern h.solves;
    listing = h.listing;
    alone = λ other is left differ. h.alone other is (remainder-back other left) differ;
  }

-- ---- two listings of one residue are as long

module _ (g residue : List Fe32) (s : List ℕ) (w n : ℕ) where
  size : (a : List (ℕ × Fe32)) (h : IsSound ops g residue s w n a) → length a ≡ length s + length h.listing.errors
  size a h =
      ap length h.listing.items_are
      ∙ length-map (s ++ h.listing.errors) (λ i. (i, value_of_pattern_at ops h.pattern i))
      ∙ length-append s h.listing.errors

  no_more : (a b : List (ℕ × Fe32)) (h : IsSound ops g residue s w n a) (k : IsSound ops g residue s w n b) → IsSamePattern ops h.pattern k.pattern
      → length h.listing.errors ≤ length k.listing.errors
  no_more a b h k same = once_fits h.listing.errors k.listing.errors (once_in_order h.listing.errors h.listing.in_order) within
    where
      within : (i : ℕ) → IsAmong i h.listing.errors → IsAmong i k.listing.errors
      within i m = let here = (h.listing.are_errors i).0 m in (k.listing.are_errors i).1 (λ z. here.0 (same i ∙ z), here.1)

  one_length : (a b : List (ℕ × Fe32)) → IsSound ops g residue s w n a → IsSound ops g residue s w n b → length a < length b → ⊥
  one_length a b h k less =
      let first : errors_outside s h.pattern < errors_outside s k.pattern = h.alone k.pattern k.solves.pattern k.solves.remainder differ in
      let second : errors_outside s k.pattern < errors_outside s h.pattern = k.alone h.pattern h.solves.pattern h.solves.remainder (λ same. differ (λ i. sym (same i))) in
      omega arith
    where
      differ : IsSamePattern ops k.pattern h.pattern → ⊥
      differ same =
          let fewer : length k.listing.errors ≤ length h.listing.errors = no_more b a k h same in
          let one : length a ≡ length s + length h.listing.errors = size a h in
          let other : length b ≡ length s + length k.listing.errors = size b k in
          omega arith

-- ---- a text is refused in one way

module _ (code : Code) (text : List ℕ) where
  one_refused : (h d : List ℕ) (residue : List Fe32) (h' d' : List ℕ) (residue' : List Fe32) → IsRefusedFor code text h d residue → IsRefusedFor code text h' d' residue'
      → (d ≡ d') × IsSamePolynomial ops residue residue'
  one_refused h d residue h' d' residue' a b =
      let same = only-from_IsText text h' d' b.read.grammar h d a.read.grammar.split a.read.grammar.data_bytes in
      let left : IsRemainder ops code.generator (text_polynomial h' (elements_of d')) a.read.remainder =
      subst (λ (x : List ℕ). IsRemainder ops code.generator (text_polynomial x (elements_of d')) a.read.remainder) same.0
      (subst (λ (x : List ℕ). IsRemainder ops code.generator (text_polynomial h (elements_of x)) a.read.remainder) same.1 a.read.is_remainder) in
      let one : a.read.remainder ≡ b.read.remainder = one_remainder code.generator (text_polynomial h' (elements_of d')) a.read.remainder b.read.remainder left b.read.is_remainder in
      (same.1, λ i. a.read.residue_is i ∙ ap (λ (r : List Fe32). coefficient ops (add ops r code.target) i) one ∙ sym (b.read.residue_is i))

  not_both : (h d : List ℕ) (residue : List Fe32) → Accepts code text → IsRefusedFor code text h d residue → ⊥
  not_both h d residue a r =
      r.not_target (one_remainder code.generator (text_polynomial h (elements_of d)) r.read.remainder code.target r.read.is_remainder (valid-from_accepts code text h d r.read.grammar a).2)

  -- a text whose residue is read is refused for nothing else
  pub no_other_refusal : (h d : List ℕ) (residue : List Fe32) (e : ChecksumError) → HasResidue code text h d residue → IsRefusedByChecksum code text e → of_checksum e ≡ None → ⊥
  no_other_refusal h d residue (CodeLength e) a r none =
      let over : code.code_length < length text = r.refusal.0 in let fits : length text ≤ code.code_length = a.text_length in omega arith
  no_other_refusal h d residue InvalidLength a r none =
      let same = only-from_IsText text r.hrp r.data_part r.grammar h d a.grammar.split a.grammar.data_bytes in
      let one : length d ≡ length r.data_part = ap length same.1 in
      let short : length r.data_part < length code.generator = r.refusal.1 in
      let room : length code.generator ≤ length d = a.data_length in
      omega arith
  no_other_refusal h d residue (InvalidResidue e) a r none = absurd (cc)

-- ---- a text is mended in one way

module _ (text given : List ℕ) (code : Code) where
  two_listings : (a b : List (ℕ × Fe32)) → IsListingOf code bound text given a → IsListingOf code bound text given b → length a < length b → ⊥
  two_listings a b h k less =
      let s = with_erasures [] given in
      let one = one_refused code text h.hrp h.data_part h.residue k.hrp k.data_part k.residue h.refused k.refused in
      let here : IsSound ops code.generator h.residue s (length k.data_part) bound a =
      subst (λ (d : List ℕ). IsSound ops code.generator h.residue s (length d) bound a) one.0
      (sound_of code bound (question_of h.data_part h.residue given) a h.only) in
      one_length code.generator k.residue s (length k.data_part) bound a b
      (sound-same code.generator h.residue k.residue one.1 s (length k.data_part) bound a here)
      (sound_of code bound (question_of k.data_part k.residue given) b k.only) less

  two_ways : (a b : List (ℕ × Fe32)) → IsMending text given a code → IsMending text given b code → length a < length b → ⊥
  two_ways a b (inl h) (inl k) less = let none : length b ≡ 0 = ap length k.1 in omega arith
  two_ways a b (inl h) (inr k) less = not_both code text k.hrp k.data_part k.residue h.0 k.refused
  two_ways a b (inr h) (inl k) less = not_both code text h.hrp h.data_part h.residue k.0 h.refused
  two_ways a b (inr h) (inr k) less = two_listings a b h k less

  in_grammar : (listing : List (ℕ × Fe32)) → IsMending text given listing code → IsInGrammar text
  in_grammar listing (inl h) = (h.0.0, h.0.1, h.0.2.grammar)
  in_grammar listing (inr h) = (h.hrp, h.data_part, h.refused.read.grammar)

  no_checksum_fault : (listing : List (ℕ × Fe32)) (e : ChecksumError) → IsMending text given listing code → IsRefusedByChecksum code text e
      → of_checksum e ≡ None → ⊥
  no_checksum_fault listing e (inl h) r none =
      not_valid code (length text) r.hrp r.data_part e r.refusal (valid-from_accepts code text r.hrp r.data_part r.grammar h.0)
  no_checksum_fault listing e (inr h) r none = no_other_refusal code text h.hrp h.data_part h.residue e h.refused.read r none

  no_solution : (listing : List (ℕ × Fe32)) → IsMending text given listing code → HasNoListing code bound text given → ⊥
  no_solution listing (inl h) none = not_both code text none.hrp none.data_part none.residue h.0 none.refused
  no_solution listing (inr h) none =
      let s = with_erasures [] given in
      let e = h.only.pattern in
      let one = one_refused code text h.hrp h.data_part h.residue none.hrp none.data_part none.residue h.refused none.refused in
      let here : Solves ops code.generator h.residue s (length none.data_part) bound e =
      subst (λ (d : List ℕ). Solves ops code.generator h.residue s (length d) bound e) one.0 h.only.explains in
      none.none (subst (λ (d : List ℕ). AreInside d given) one.0 h.inside) e
      (solves-same code.generator h.residue none.residue one.1 s (length none.data_part) bound e here)

  no_room_fault : (m n r : ℕ) → CanMend text given m n r code → LacksRoomForMended text given m n r code → ⊥
  no_room_fault m n r can lack = over lack.lacks
    where
      over : (m < length lack.listing) ⊎ ((n < length lack.listing) ⊎ (r < length text)) → ⊥
      over (inl h) = let fits : length can.listing ≤ m = can.locations_fit in two_ways can.listing lack.listing can.mended_by lack.mended_by (omega arith)
      over (inr (inl h)) = let fits : length can.listing ≤ n = can.values_fit in two_ways can.listing lack.listing can.mended_by lack.mended_by (omega arith)
      over (inr (inr h)) = let fits : length text ≤ r = can.text_fits in omega arith

  -- nothing is wrong where the text is to be mended and the buffers have room
  pub no_correct_fault : (m n r : ℕ) (e : Refusal) → CanMend text given m n r code → IsCorrectFault text given m n r code e → ⊥
  no_correct_fault m n r NotUtf8 can h = let g = in_grammar can.listing can.mended_by in h (IsUtf8-from_text text g.0 g.1 g.2)
  no_correct_fault m n r (Text e) can h =
      let none : text_refusal text ≡ None = text_refusal-none text h.0 (in_grammar can.listing can.mended_by) in
      let some : text_refusal text ≡ Some e = h.1 in
      absurd (cc)
  no_correct_fault m n r (Checksum e) can h = no_checksum_fault can.listing e can.mended_by h.1 h.2
  no_correct_fault m n r NoCorrection can h = no_solution can.listing can.mended_by h
  no_correct_fault m n r NoRoom can h = no_room_fault m n r can h
  no_correct_fault m n r _ can h = h

-- why no residue is read is why the text is not to be mended
pub unread_there : (text given : List ℕ) (e : Refusal) (code : Code) → IsResidueFault text code e → IsListingFault text given code e
unread_there text given NoCorrection code h = absurd h
unread_there text given _ code h = h

-- why a text is not to be mended is why nothing is put
pub fault_there : (text given : List ℕ) (m n r : ℕ) (e : Refusal) (code : Code) → IsListingFault text given code e → IsCorrectFault text given m n r code e
fault_there text given m n r NoRoom code h = absurd h
fault_there text given m n r _ code h = h

-- why no residue is read is why nothing is put
pub unread_put : (text given : List ℕ) (m n r : ℕ) (e : Refusal) (code : Code) → IsResidueFault text code e → IsCorrectFault text given m n r code e
unread_put text given m n r e code h = fault_there text given m n r e code (unread_there text given e code h)

-- nor is anything put of bytes that are not read
pub text_fault_there : (text : List ℕ) (e : Refusal) (code : Code) → IsTextFault text e → IsResidueFault text code e
text_fault_there text NotUtf8 code h = h
text_fault_there text (Text e) code h = h
text_fault_there text _ code h = absurd h

pub text_fault_put : (text given : List ℕ) (m n r : ℕ) (e : Refusal) (code : Code) → IsTextFault text e → IsCorrectFault text given m n r code e
text_fault_put text given m n r e code h = unread_put text given m n r e code (text_fault_there text e code h)

-- no residue is read of a text that is refused for its lengths
pub unread-from_lengths : (text hrp data_part : List ℕ) (code : Code) (e : ChecksumError) → IsText text hrp data_part
    → IsChecksumRefusal code (length text) hrp data_part e → (HasLengths code (length text) (length data_part) → ⊥) → IsResidueFault text code (Checksum e)
unread-from_lengths text hrp data_part code e is refusal short =
    (IsUtf8-from_text text hrp data_part is, record { hrp = hrp; data_part = data_part; grammar = is; refusal = refusal }, none e refusal)
  where
    none : (e : ChecksumError) → IsChecksumRefusal code (length text) hrp data_part e → of_checksum e ≡ None
    none (CodeLength e) h = refl
    none InvalidLength h = refl
    none (InvalidResidue e) h = absurd (short (h.0, h.1))

-- nor is one read by Bech32m or by Bech32, whose lengths are the same
pub unread_either : (text hrp data_part : List ℕ) (e : ChecksumError) → IsText text hrp data_part
    → IsChecksumRefusal bech32m (length text) hrp data_part e → (HasLengths bech32m (length text) (length data_part) → ⊥)
    → IsResidueFault text bech32m (Checksum e) × IsResidueFault text bech32 (Checksum e)
unread_either text hrp data_part e is refusal short =
    (unread-from_lengths text hrp data_part bech32m e is refusal short, unread-from_lengths text hrp data_part bech32 e is (other e refusal) short)
  where
    other : (e : ChecksumError) → IsChecksumRefusal bech32m (length text) hrp data_part e → IsChecksumRefusal bech32 (length text) hrp data_part e
    other (CodeLength e) h = h
    other InvalidLength h = h
    other (InvalidResidue e) h = absurd (short (h.0, h.1))

-- a text that the checksum accepts is mended by nothing
pub mended_by_nothing : (text given hrp data_part : List ℕ) (code : Code) → IsText text hrp data_part → HasLengths code (length text) (length data_part)
    → IsRemainder ops code.generator (text_polynomial hrp (elements_of data_part)) code.target → IsMending text given [] code
mended_by_nothing text given hrp data_part code is lengths target =
    inl ((hrp, data_part, record { grammar = is; text_length = lengths.0; data_length = lengths.1; has_target = target }), refl)

-- what mends a text by its listing mends the same text
pub mended_by_listing : (text text' given : List ℕ) (listing listing' : List (ℕ × Fe32)) (code : Code) (n : ℕ) → n ≡ bound → text' ≡ text → listing ≡ listing'
    → IsListingOf code n text' given listing → IsMending text given listing' code
mended_by_listing text text' given listing listing' code n count same lists h =
    inr (subst (λ (l : List (ℕ × Fe32)). IsListingOf code bound text given l) lists
    (subst (λ (t : List ℕ). IsListingOf code bound t given listing) same
    (subst (λ (k : ℕ). IsListingOf code k text' given listing) count h)))

-- what has no listing has none
pub no_listing_there : (text text' given : List ℕ) (code : Code) (n : ℕ) → n ≡ bound → text' ≡ text → HasNoListing code n text' given → HasNoListing code bound text given
no_listing_there text text' given code n count same h =
    subst (λ (t : List ℕ). HasNoListing code bound t given) same
    (subst (λ (k : ℕ). HasNoListing code k text' given) count h)

-- ---- what is put

abbrev pub PutsAdded : List ℕ → List (ℕ × Fe32) → List ℕ → List ℕ → ℕ → Type 0
PutsAdded text listing mended mended' size =
    (front : List ℕ) (elements : List Fe32) → EndsIn (lowered text) front elements → AllByRecursion (λ (p : ℕ × Fe32). p.0 < length elements) listing
    → (t : List ℕ) × EndsIn t front (mended_of ops listing elements) × IsPut t mended mended' size

mendable : (text given : List ℕ) (listing : List (ℕ × Fe32)) (code : Code) → IsMending text given listing code → IsMendable code text listing
mendable text given listing code (inl h) = subst (λ (l : List (ℕ × Fe32)). IsMendable code text l) (sym h.1) (mendable-from_accepts code text h.0)
mendable text given listing code (inr h) = mendable-from_listing code bound text given listing h

-- the listed locations are those of characters of the data part
pub listed_inside : (text given : List ℕ) (listing : List (ℕ × Fe32)) (code : Code) → IsMending text given listing code
    → (front : List ℕ) × ((elements : List Fe32) × EndsIn (lowered text) front elements × AllByRecursion (λ (p : ℕ × Fe32). p.0 < length elements) listing)
listed_inside text given listing code h =
    let m = mendable text given listing code h in
    (lowered m.hrp ++ (49 ∷ []), (elements_of m.data_part, ends-lowered text m.hrp m.data_part m.grammar, m.inside))

pub puts_mended : (text given places places' values values' : List ℕ) (count : ℕ) (mended mended' : List ℕ) (size : ℕ) (listing : List (ℕ × Fe32)) (code : Code)
    → IsPut (locations listing) places places' count → IsPut (map (λ (p : ℕ × Fe32). value p.1) listing) values values' count → PutsAdded text listing mended mended' size
    → IsMending text given listing code → PutsMended text given places places' values values' count mended mended' size code
puts_mended text given places places' values values' count mended mended' size listing code at added puts h =
    let m = mendable text given listing code h in
    let (t, ends, put) = puts (lowered m.hrp ++ (49 ∷ [])) (elements_of m.data_part) (ends-lowered text m.hrp m.data_part m.grammar) m.inside in
    let both = mended_text-from_ends code text t listing m ends in
    record {
      listing = listing;
      mended_text = t;
      mended_by = h;
      is_mended = both.0;
      accepted = both.1;
      locations_put = at;
      values_put = added;
      text_put = put;
    }
