-- What follows of a text from what its checksum and the corrector answer.
use Rattle.std.proofs.Common.{◌≡◌, ℕ, ◌<◌, ◌≤◌, List, [], ◌∷◌, map, length, Option, None, Some, MatchOption, MatchResult, Result, Ok, Err, subst, sym, ap, ◌∙◌, refl, arith}
use Rattle.std.specs.List.{AllByRecursion}
use Rattle.std.proofs.Math.Decide.{dec_lt}
use Rattle.std.proofs.lemmas.List.{length-append}
use Rattle.bech32_gf.specs.Fe32 as fe32
use Rattle.bech32_gf.specs.Fe32.{elements_of, ops}
use Rattle.bech32_gf.specs.declared.gf32.Fe32.{Fe32}
use Rattle.bech32_gf.specs.laws.Fe32Laws.{is_field}
use Rattle.bech32_poly.specs.Polynomial.{IsSamePolynomial, add, coefficient}
use Rattle.bech32_poly.proofs.Lists.{coefficient-add}
use Rattle.bech32_hrp.specs.Hrp.{lowered}
use Rattle.bech32_checksum.specs.Code.{Code}
use Rattle.bech32_checksum.specs.Encoded.{char_of_element}
use Rattle.bech32_checksum.specs.Lookup.{IfLookedUp, MatchLookup}
use Rattle.bech32_checksum.specs.TextPolynomial.{text_polynomial}
use Rattle.bech32_checksum.specs.declared.lookups.Lookup.{Lookup}
use Rattle.bech32_checksum.specs.declared.lookups.Lookup.TheVariants.{NoTable, Absent, Found}
use Rattle.bech32_bch.specs.Erasures.{AreErasures, with_erasures}
use Rattle.bech32_lookup.specs.Carried.{of_checksum}
use Rattle.bech32_lookup.specs.Question.{Explains, IsAnswerTo, IsOnlyListing, Question, listing_of_one}
use Rattle.bech32_correction.specs.Given.{IsAnswerWith}
use Rattle.bech32_correction.proofs.Different.{erasures_are}
use Rattle.bech32_decode.specs.Acceptance.{Accepts}
use Rattle.bech32_decode.specs.Parts.{unchecked_data, unchecked_part}
use Rattle.bech32_decode.specs.Refusals.{HasLengths, IsChecksumRefusal, IsInvalidBy, IsValidBy}
use Rattle.bech32_decode.specs.Text.{IsText}
use Rattle.bech32_decode.proofs.Decoding.{accepted}
use Rattle.bech32_decode.specs.declared.unchecked.UncheckedHrpstring.{UncheckedHrpstring}
use Rattle.bech32_refusals.specs.ResidueRows.{IsResidueError, actual_row, error_residue_of, target_row}
use Rattle.bech32_refusals.specs.declared.error.CheckedHrpstringError.TheVariants.{Checksum, Parse}
use Rattle.bech32_refusals.specs.declared.error.ChecksumError.{ChecksumError}
use Rattle.bech32_refusals.specs.declared.error.ChecksumError.TheVariants.{CodeLength, InvalidLength, InvalidResidue}
use Rattle.bech32_refusals.specs.declared.error.InvalidResidueError.{InvalidResidueError}
use Rattle.bech32_correction.specs.MendedElements.{mended}
use Rattle.bech32_correction.specs.Mistyped.{AreInside, HasNoListing, IsCorrectRefusal, IsCorrectorOf, IsListedCorrection, IsListedInPlace, IsListingOf, IsReadAs, IsReadRefusal, IsRefusal, IsRefusedFor, question_of}
use Rattle.bech32_correction.specs.declared.correcting.Correction.{Correction}
use Rattle.bech32_correction.specs.declared.correcting.Correction.TheVariants.{Mended, Unexplained}
use Rattle.bech32_correction.specs.declared.error.CorrectError.{CorrectError}
use Rattle.bech32_correction.specs.declared.error.CorrectError.TheVariants.{Memory, Refused}
use Rattle.bech32_correction.proofs.Accepted.{mended_accepted}
use Rattle.bech32_correction.proofs.Inside.{all-with_erasures, listed_inside}
use Rattle.bech32_correction.proofs.Sound.{sound_of}

-- the residue that an error carries is the remainder less the target
residue_carried : (code : Code) (p : List Fe32) (e : InvalidResidueError) (h : IsResidueError code p e) → IsSamePolynomial ops (error_residue_of e) (add ops h.remainder code.target)
residue_carried code p e h n =
    coefficient-add is_field (actual_row e) (target_row e) n
    ∙ ap (λ (x : Fe32). fe32.add x (coefficient ops (target_row e) n)) (h.actual n)
    ∙ ap (fe32.add (coefficient ops h.remainder n)) (h.target n)
    ∙ sym (coefficient-add is_field h.remainder code.target n)

pub accepted-from_valid : (code : Code) (text : List ℕ) (u : UncheckedHrpstring) → IsReadAs text u → IsValidBy code u → Accepts code text
accepted-from_valid code text u is v = (
  unchecked_part u,
  unchecked_data u,
  accepted code text (unchecked_part u) (unchecked_data u) is.grammar
      (subst (λ (n : ℕ). n ≤ code.code_length) is.text_length v.0, v.1, v.2),
)

-- a text of these parts that is refused by a residue error is refused for its residue
pub refused_text : (code : Code) (text hrp data_part : List ℕ) (e : InvalidResidueError) → IsText text hrp data_part
    → IsChecksumRefusal code (length text) hrp data_part (InvalidResidue e) → IsRefusedFor code text hrp data_part (error_residue_of e)
refused_text code text hrp data_part e is v = record {
  read = record {
    grammar = is;
    text_length = v.0;
    data_length = v.1;
    remainder = v.2.remainder;
    is_remainder = v.2.is_remainder;
    residue_is = residue_carried code (text_polynomial hrp (elements_of data_part)) e v.2;
  };
  not_target = v.2.not_target;
}

-- why a text that was read is refused is why the text is
of_read : (code : Code) (text : List ℕ) (u : UncheckedHrpstring) (e : ChecksumError) → IsReadAs text u → IsInvalidBy code u e
    → IsChecksumRefusal code (length text) (unchecked_part u) (unchecked_data u) e
of_read code text u e is v = subst (λ (n : ℕ). IsChecksumRefusal code n (unchecked_part u) (unchecked_data u) e) is.text_length v

pub refused_for : (code : Code) (text : List ℕ) (u : UncheckedHrpstring) (e : InvalidResidueError) → IsReadAs text u → IsInvalidBy code u (InvalidResidue e)
    → IsRefusedFor code text (unchecked_part u) (unchecked_data u) (error_residue_of e)
refused_for code text u e is v = refused_text code text (unchecked_part u) (unchecked_data u) e is.grammar (of_read code text u (InvalidResidue e) is v)

pub listing-from_only : (code : Code) (bound : ℕ) (text given hrp data_part : List ℕ) (residue : List Fe32) (listing : List (ℕ × Fe32))
    → IsRefusedFor code text hrp data_part residue → AreInside data_part given
    → IsOnlyListing code bound (question_of data_part residue given) listing → IsListingOf code bound text given listing
listing-from_only code bound text given hrp data_part residue listing is inside only = record {
  hrp = hrp;
  data_part = data_part;
  residue = residue;
  refused = is;
  inside = inside;
  only = only;
  mends = (
    lowered hrp,
    map char_of_element (mended ops listing (elements_of data_part)),
    mended_accepted code text hrp data_part residue listing is.read
        (listed_inside is_field code.generator residue (with_erasures [] given) (length data_part) bound listing
        (sound_of code bound (question_of data_part residue given) listing only)
        (all-with_erasures (λ i. i < length data_part) [] given tt inside)) only.mends,
  );
}

-- what an error that is looked up says of the text, where there are no erasures
pub error_answered : (code : Code) (bound : ℕ) (text hrp data_part : List ℕ) (residue : List Fe32) (found : Lookup (ℕ × Fe32))
    → IsRefusedFor code text hrp data_part residue
    → IfLookedUp found (λ one. IsAnswerTo code bound (question_of data_part residue []) (listing_of_one one))
    → MatchLookup found (HasNoListing code bound text []) (λ error. IsListingOf code bound text [] (error ∷ []))
error_answered code bound text hrp data_part residue NoTable is h = h
error_answered code bound text hrp data_part residue Absent is none = record { hrp = hrp; data_part = data_part; residue = residue; refused = is; none = λ inside. none }
error_answered code bound text hrp data_part residue (Found error) is only = listing-from_only code bound text [] hrp data_part residue (error ∷ []) is tt only

-- and one that is looked up where there are some
pub erased_answered : (code : Code) (bound : ℕ) (text given hrp data_part : List ℕ) (residue : List Fe32) (found : Lookup (List (ℕ × Fe32)))
    → IsRefusedFor code text hrp data_part residue
    → IfLookedUp found (λ one. AreErasures (length data_part) given
    × IsAnswerTo code bound (record { residue = residue; window = length data_part; erasures = given }) one)
    → MatchLookup found (HasNoListing code bound text given) (λ listing. IsListingOf code bound text given listing)
erased_answered code bound text given hrp data_part residue NoTable is h = h
erased_answered code bound text given hrp data_part residue Absent is (erased, none) = record {
  hrp = hrp;
  data_part = data_part;
  residue = residue;
  refused = is;
  none = λ inside. subst (λ (s : List ℕ). IsAnswerTo code bound (record { residue = residue; window = length data_part; erasures = s }) None) (sym (erasures_are given erased.once)) none;
}
erased_answered code bound text given hrp data_part residue (Found listing) is (erased, only) =
    listing-from_only code bound text given hrp data_part residue listing is erased.below
    (subst (λ (s : List ℕ). IsOnlyListing code bound (record { residue = residue; window = length data_part; erasures = s }) listing) (sym (erasures_are given erased.once)) only)

-- where there are no given locations, what is said of none is said of these
pub found_listing : (code : Code) (bound : ℕ) (text given : List ℕ) (error : ℕ × Fe32) (listing : List (ℕ × Fe32)) → given ≡ [] → listing ≡ error ∷ []
    → IsListingOf code bound text [] (error ∷ []) → IsListingOf code bound text given listing
found_listing code bound text given error listing none is h =
    subst (λ (l : List (ℕ × Fe32)). IsListingOf code bound text given l) (sym is) (subst (λ (s : List ℕ). IsListingOf code bound text s (error ∷ [])) (sym none) h)

pub found_none : (code : Code) (bound : ℕ) (text given : List ℕ) → given ≡ [] → HasNoListing code bound text [] → HasNoListing code bound text given
found_none code bound text given none h = subst (λ (s : List ℕ). HasNoListing code bound text s) (sym none) h

-- what a listing of the text's corrector says of the text
pub listed : (code : Code) (bound : ℕ) (text given : List ℕ) (corrector : Question) (listing : List (ℕ × Fe32)) → IsCorrectorOf code text corrector
    → IsAnswerWith code bound corrector given (Some listing) → IsListingOf code bound text given listing
listed code bound text given corrector listing is (inside, only) =
    listing-from_only code bound text given is.hrp is.data_part corrector.residue listing is.refused
    (subst (λ (n : ℕ). AllByRecursion (λ i. i < n) given) is.window inside)
    (subst (λ (n : ℕ). IsOnlyListing code bound (record { residue = corrector.residue; window = n; erasures = with_erasures [] given }) listing) is.window only)

-- what it says that there is none
pub none_listed : (code : Code) (bound : ℕ) (text given : List ℕ) (corrector : Question) → IsCorrectorOf code text corrector
    → IsAnswerWith code bound corrector given None → HasNoListing code bound text given
none_listed code bound text given corrector is none = record {
  hrp = is.hrp;
  data_part = is.data_part;
  residue = corrector.residue;
  refused = is.refused;
  none = λ within e explains. none (subst (λ (n : ℕ). AllByRecursion (λ i. i < n) given) (sym is.window) within) e
      (subst (λ (n : ℕ). Explains code bound (record { residue = corrector.residue; window = n; erasures = with_erasures [] given }) e) (sym is.window) explains);
}

-- what a corrector with this residue holds
pub of_residue : (residue residue' : List Fe32) (window : ℕ) (v : Question) → v ≡ record { residue = residue; window = window; erasures = [] } → residue ≡ residue'
    → v ≡ record { residue = residue'; window = window; erasures = [] }
of_residue residue residue' window v e k = e ∙ (λ i. record { residue = k i; window = window; erasures = [] })

-- the corrector of a refused text
pub corrector_of : (code : Code) (text hrp data_part : List ℕ) (residue : List Fe32) (window : ℕ) (c : Question)
    → IsRefusedFor code text hrp data_part residue → window ≡ length data_part
    → c ≡ record { residue = residue; window = window; erasures = [] } → IsCorrectorOf code text c
corrector_of code text hrp data_part residue window c is at whole =
    subst (λ (x : Question). IsCorrectorOf code text x) (sym whole)
    (record { hrp = hrp; data_part = data_part; refused = is; window = at; fresh = refl })

-- a data part is no longer than its text
pub part_fits : (text hrp data_part : List ℕ) → IsText text hrp data_part → length data_part ≤ length text
part_fits text hrp data_part is = omega (arith, ap length is.split, length-append hrp (49 ∷ data_part))

-- the data part of a text that is no longer than the code is no longer either
pub inside_code : (code : Code) (k size n w : ℕ) → k ≤ size → size ≤ code.code_length → code.code_length ≡ n → w ≡ k → w ≤ n
inside_code code k size n w fits short limit at = omega arith

pub no_elements : (xs : List Fe32) → length xs ≡ 0 → xs ≡ []
no_elements [] h = refl
no_elements (x ∷ xs) h = absurd (omega (arith, h))

-- a checksum of no elements leaves no other remainder than its target
pub some_places : (code : Code) (remainder : List Fe32) → length code.target ≡ length code.generator → length remainder ≡ length code.generator
    → (remainder ≡ code.target → ⊥) → 0 < length code.generator
some_places code remainder size short other =
    elim (dec_lt 0 (length code.generator)) [
      | yes some ↦ some
      | no none ↦ absurd (other (no_elements remainder (omega arith) ∙ sym (no_elements code.target (omega arith))))
    ]

-- it refuses no text for its residue
pub some_degree : (code : Code) (u : UncheckedHrpstring) (e : InvalidResidueError) → length code.target ≡ length code.generator → IsInvalidBy code u (InvalidResidue e)
    → 0 < length code.generator
some_degree code u e size v = some_places code v.2.remainder size v.2.is_remainder.short v.2.not_target

-- a checksum's refusal that is not for the residue holds no residue error
pub none_carried : (e : ChecksumError) → ((x : InvalidResidueError) → e ≡ InvalidResidue x → ⊥) → of_checksum e ≡ None
none_carried (CodeLength x) other = refl
none_carried InvalidLength other = refl
none_carried (InvalidResidue x) other = absurd (other x refl)

-- nor does one by which a text has no room for the checksum, or no room in the code
pub none-from_lengths : (code : Code) (n : ℕ) (hrp data_part : List ℕ) (e : ChecksumError) → IsChecksumRefusal code n hrp data_part e
    → (HasLengths code n (length data_part) → ⊥) → of_checksum e ≡ None
none-from_lengths code n hrp data_part (CodeLength x) h not = refl
none-from_lengths code n hrp data_part InvalidLength h not = refl
none-from_lengths code n hrp data_part (InvalidResidue x) h not = absurd (not (h.0, h.1))

-- a checksum's refusal of a text of these parts
pub refusal_of_parts : (code : Code) (text hrp data_part : List ℕ) (e : ChecksumError) → IsText text hrp data_part
    → IsChecksumRefusal code (length text) hrp data_part e → of_checksum e ≡ None → IsRefusal code text (Checksum e)
refusal_of_parts code text hrp data_part e is v none = (record { hrp = hrp; data_part = data_part; grammar = is; refusal = v }, none)

-- what an answer to the text's corrector says of the text
pub answered : (code : Code) (bound : ℕ) (text given : List ℕ) (corrector : Question) (answer : Option (List (ℕ × Fe32))) → IsCorrectorOf code text corrector
    → IsAnswerWith code bound corrector given answer
    → MatchOption answer (HasNoListing code bound text given) (λ listing. IsListingOf code bound text given listing)
answered code bound text given corrector None is none = none_listed code bound text given corrector is none
answered code bound text given corrector (Some listing) is only = listed code bound text given corrector listing is only

-- a listing, or that there is none, as what is said of the text
pub reply_of : (code : Code) (bound : ℕ) (text given : List ℕ) (answer : Option (List (ℕ × Fe32))) (said : Correction (List (ℕ × Fe32)) (Unit {0}))
    → MatchOption answer (HasNoListing code bound text given) (λ listing. IsListingOf code bound text given listing)
    → MatchOption answer (said ≡ Unexplained tt) (λ listing. said ≡ Mended listing) → IsListedInPlace code bound text given said
reply_of code bound text given None said none is = rw is (none, tt)
reply_of code bound text given (Some listing) said only is = rw is only
