-- What a checksum says of a mistyped text: that it accepts it, how to correct it, or that there is
-- no correction.
use Rattle.std.specs.Prelude.{◌≡◌, ◌≢◌, ◌<◌, ◌≤◌, ℕ, List, [], length, None}
use Rattle.std.specs.List.{AllByRecursion}
use Rattle.bech32_gf.specs.Fe32.{elements_of, ops}
use Rattle.bech32_gf.specs.declared.gf32.Fe32.{Fe32}
use Rattle.bech32_poly.specs.Polynomial.{IsSamePolynomial, add}
use Rattle.bech32_poly.specs.Remainder.{IsRemainder}
use Rattle.bech32_checksum.specs.Code.{Code}
use Rattle.bech32_checksum.specs.Encoded.{spelled}
use Rattle.bech32_checksum.specs.TextPolynomial.{text_polynomial}
use Rattle.bech32_bch.specs.Erasures.{with_erasures}
use Rattle.bech32_decode.specs.Acceptance.{Accepts}
use Rattle.bech32_decode.specs.Checked.{IsCheckedRefusal}
use Rattle.bech32_decode.specs.Parts.{unchecked_data, unchecked_length, unchecked_part}
use Rattle.bech32_decode.specs.Refusals.{IsInvalidBy}
use Rattle.bech32_decode.specs.Text.{IsText}
use Rattle.bech32_decode.specs.declared.unchecked.UncheckedHrpstring.{UncheckedHrpstring}
use Rattle.bech32_refusals.specs.declared.error.CheckedHrpstringError.{CheckedHrpstringError}
use Rattle.bech32_refusals.specs.declared.error.CheckedHrpstringError.TheVariants.{Checksum, Parse}
use Rattle.bech32_refusals.specs.declared.error.ChecksumError.TheVariants.{InvalidResidue}
use Rattle.bech32_refusals.specs.declared.error.InvalidResidueError.{InvalidResidueError}
use Rattle.bech32_lookup.specs.Carried.{of_checksum}
use Rattle.bech32_correction.specs.Carried.{of_checked}
use Rattle.bech32_correction.specs.MendedElements.{mended}
use Rattle.bech32_lookup.specs.Question.{Explains, IsOnlyListing, Question}
use Rattle.bech32_correction.specs.declared.correcting.Correction.{Correction}
use Rattle.bech32_correction.specs.declared.correcting.Correction.TheVariants.{Accepted, Mended}
use Rattle.bech32_correction.specs.declared.correcting.Correction.TheVariants.{Unexplained}
use Rattle.bech32_correction.specs.declared.error.CorrectError.{CorrectError}
use Rattle.bech32_correction.specs.declared.error.CorrectError.TheVariants.{Memory, Refused}

-- the parts that were read are those of the text
pub record IsReadAs (text : List ℕ) (u : UncheckedHrpstring) : Type 0 where
  pub grammar : IsText text (unchecked_part u) (unchecked_data u)
  pub text_length : unchecked_length u ≡ length text

-- the text has these parts and is within the checksum's lengths; the remainder of its polynomial
-- less the target is the residue (in this field a difference is a sum)
pub record HasResidue (code : Code)
    (text hrp data_part : List ℕ) (residue : List Fe32) : Type 0 where
  pub grammar : IsText text hrp data_part
  pub text_length : length text ≤ code.code_length
  pub data_length : length code.generator ≤ length data_part
  pub remainder : List Fe32
  pub is_remainder :
      IsRemainder ops code.generator (text_polynomial hrp (elements_of data_part)) remainder
  pub residue_is : IsSamePolynomial ops residue (add ops remainder code.target)

-- the checksum refuses such a text, for its residue alone
pub record IsRefusedFor (code : Code)
    (text hrp data_part : List ℕ) (residue : List Fe32) : Type 0 where
  pub read : HasResidue code text hrp data_part residue
  pub not_target : read.remainder ≢ code.target

-- each location is that of a character of the data part, of which location 0 is the last
abbrev pub AreInside : List ℕ → List ℕ → Type 0
AreInside data_part given = AllByRecursion (λ i. i < length data_part) given

-- what explains the residue in the data part, where the given locations are the erasures
abbrev pub question_of : List ℕ → List Fe32 → List ℕ → Question
question_of data_part residue given =
    record { residue = residue; window = length data_part; erasures = with_erasures [] given }

-- the listing of the only pattern in the data part that explains the residue; the text mended by it
-- is accepted
pub record IsListingOf (code : Code) (bound : ℕ)
    (text given : List ℕ) (listing : List (ℕ × Fe32)) : Type 0 where
  pub hrp : List ℕ
  pub data_part : List ℕ
  pub residue : List Fe32
  pub refused : IsRefusedFor code text hrp data_part residue
  pub inside : AreInside data_part given
  pub only : IsOnlyListing code bound (question_of data_part residue given) listing
  pub mends : Accepts code (spelled hrp (mended ops listing (elements_of data_part)))

-- there is no such pattern, or a given location is not in the data part
pub record HasNoListing (code : Code) (bound : ℕ) (text given : List ℕ) : Type 0 where
  pub hrp : List ℕ
  pub data_part : List ℕ
  pub residue : List Fe32
  pub refused : IsRefusedFor code text hrp data_part residue
  pub none : AreInside data_part given → (e : List (ℕ × Fe32))
      → Explains code bound (question_of data_part residue given) e → ⊥

-- a corrector of the text: it has the residue, searches the data part, and has no erasures yet
pub record IsCorrectorOf (code : Code) (text : List ℕ) (corrector : Question) : Type 0 where
  pub hrp : List ℕ
  pub data_part : List ℕ
  pub refused : IsRefusedFor code text hrp data_part corrector.residue
  pub window : corrector.window ≡ length data_part
  pub fresh : corrector.erasures ≡ []

-- the text in lower case, with each listed value added to the element at its location
pub record IsMendedText (listing : List (ℕ × Fe32)) (text mended_text : List ℕ) : Type 0 where
  pub hrp : List ℕ
  pub data_part : List ℕ
  pub grammar : IsText text hrp data_part
  pub spelling : mended_text ≡ spelled hrp (mended ops listing (elements_of data_part))

-- each listed location is that of a character of the data part
abbrev pub IsPlacedIn : List ℕ → List (ℕ × Fe32) → Type 0
IsPlacedIn text listing = (hrp : List ℕ) × (data_part : List ℕ) × IsText text hrp data_part
    × AllByRecursion (λ p. p.0 < length data_part) listing

-- the listing, and the text that it mends, which the checksum accepts
pub record IsMendedBy (code : Code) (bound : ℕ)
    (text given : List ℕ) (listing : List (ℕ × Fe32)) (new : List ℕ)
    : Type 0 where
  pub listed : IsListingOf code bound text given listing
  pub text_is : IsMendedText listing text new
  pub accepted : Accepts code new

-- what a checksum says of a text: that it accepts it, how it is corrected, or that there is no
-- correction
abbrev pub IsCorrectionBy : {M C : Type 0} → (M → Type 0) → (C → Type 0)
    → Code → ℕ → List ℕ → List ℕ → Correction M C → Type 0
IsCorrectionBy IsMended IsLeft code bound text given Accepted = Accepts code text
IsCorrectionBy IsMended IsLeft code bound text given (Mended m) = IsMended m
IsCorrectionBy IsMended IsLeft code bound text given (Unexplained c) =
    HasNoListing code bound text given × IsLeft c

-- the correction is a listing; where there is none, the corrector of the text is left
abbrev pub IsListedCorrection : Code → ℕ → List ℕ → List ℕ
    → Correction (List (ℕ × Fe32)) Question → Type 0
IsListedCorrection code bound text given =
    IsCorrectionBy
    (λ listing. IsListingOf code bound text given listing)
    (λ c. IsCorrectorOf code text c)
    code bound text given

-- the correction is a listing; where there is none, nothing is left
abbrev pub IsListedInPlace : Code → ℕ → List ℕ → List ℕ
    → Correction (List (ℕ × Fe32)) (Unit {0}) → Type 0
IsListedInPlace code bound text given =
    IsCorrectionBy
    (λ listing. IsListingOf code bound text given listing)
    (λ c. Unit {0}) code bound text given

-- a text is refused as the reader of checked texts refuses it, but not for its residue
abbrev pub IsRefusal : Code → List ℕ → CheckedHrpstringError → Type 0
IsRefusal code text e = IsCheckedRefusal code text e × (of_checked e ≡ None)

-- the checksum refuses a text that was read, but not for its residue
abbrev pub IsReadRefusalBy : Code → UncheckedHrpstring → CheckedHrpstringError → Type 0
IsReadRefusalBy code u (Checksum e) = IsInvalidBy code u e × (of_checksum e ≡ None)
IsReadRefusalBy code u (Parse e) = ⊥

-- why a text that was read is not corrected: the checksum refuses it, but not for its residue; or
-- it refuses it for its residue, and there is no memory
abbrev pub IsReadRefusal : Code → UncheckedHrpstring → CorrectError → Type 0
IsReadRefusal code u (Refused e) = IsReadRefusalBy code u e
IsReadRefusal code u Memory =
    (error : InvalidResidueError) × IsInvalidBy code u (InvalidResidue error)

-- why a text is not corrected: it is refused, but not for its residue; or it is refused for its
-- residue alone, and there is no memory
abbrev pub IsCorrectRefusal : Code → List ℕ → CorrectError → Type 0
IsCorrectRefusal code text (Refused e) = IsRefusal code text e
IsCorrectRefusal code text Memory =
    (hrp : List ℕ) × (data_part : List ℕ) × (residue : List Fe32)
    × IsRefusedFor code text hrp data_part residue
