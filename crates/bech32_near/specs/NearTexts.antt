-- Which texts are near one: a checksum accepts them, and they differ from it in few characters.
use Rattle.std.specs.Prelude.{◌≡◌, ◌⊎◌, ◌<◌, ◌≤◌, ◌==◌, ◌+◌, ◌*◌, ℕ, suc, cond}
use Rattle.std.specs.Prelude.{List, [], ◌∷◌, length, map}
use Rattle.std.specs.Prelude.{Option, Some, None}
use Rattle.std.specs.List.{AllByRecursion}
use Rattle.bech32_gf.specs.Fe32.{elements_of, ops}
use Rattle.bech32_gf.specs.declared.gf32.Fe32.{Fe32}
use Rattle.bech32_poly.specs.Distinct.{IsAmong, IsOnce}
use Rattle.bech32_hrp.specs.Hrp.{lowered}
use Rattle.bech32_checksum.specs.Code.{Code, bech32, bech32m}
use Rattle.bech32_bch.specs.Erasures.{has, with_erasures}
use Rattle.bech32_decode.specs.Acceptance.{Accepts, IsAccepted}
use Rattle.bech32_decode.specs.Text.{IsText}
use Rattle.bech32_correction.specs.Mistyped.{AreInside, HasResidue, IsMendedText, IsRefusal}
use Rattle.bech32_correction.specs.Mistyped.{question_of}
use Rattle.bech32_correction.specs.declared.error.CorrectError.{CorrectError}
use Rattle.bech32_correction.specs.declared.error.CorrectError.TheVariants.{Memory, Refused}
use Rattle.bech32_bch.specs.Detection.{DetectsFour}
use Rattle.bech32_near.specs.search.Nearest.{AreNearest}
use Rattle.bech32_lookup.specs.Question.{Question}

-- the checksum has characters, and each given location is that of one of the data part
abbrev pub IsSearched : Code → List ℕ → List ℕ → Type 0
IsSearched code data_part given = (0 < length code.generator) × AreInside data_part given

-- the listings of all patterns in the data part that explain the residue with at most this many
-- errors outside the given locations, in rising order; where there is nothing to search, none
pub record AreNearestListings (code : Code) (bound : ℕ)
    (text given : List ℕ) (errors : ℕ) (listings : List (List (ℕ × Fe32))) : Type 0 where
  pub hrp : List ℕ
  pub data_part : List ℕ
  pub residue : List Fe32
  pub read : HasResidue code text hrp data_part residue
  pub nearest : IsSearched code data_part given
      → AreNearest code bound (question_of data_part residue given) errors listings
  pub none : (IsSearched code data_part given → ⊥) → listings ≡ []
  -- where the checksum detects four errors in the data part, two errors have one answer at most
  pub one : DetectsFour ops code.generator (length data_part) → given ≡ [] → errors ≤ 2
      → length listings ≤ 1

-- in how many places two lists of elements differ, but for the given locations, of which 0 is that
-- of the last element
abbrev pub differences_outside : List ℕ → List Fe32 → List Fe32 → ℕ
differences_outside given [] ys = 0
differences_outside given (x ∷ xs) [] = 0
differences_outside given (x ∷ xs) (y ∷ ys) =
    cond (x.value == y.value) (differences_outside given xs ys)
    (cond (has given (length xs)) (differences_outside given xs ys)
    (suc (differences_outside given xs ys)))

-- another text that the checksum accepts, with the same human-readable part in lower case, and of
-- the same length: its data part differs from that of the text in at most this many characters
-- outside the given locations, which are no more than the bound
pub record IsNearText (code : Code) (bound : ℕ)
    (text given : List ℕ) (errors : ℕ) (other : List ℕ) : Type 0 where
  pub hrp : List ℕ
  pub data_part : List ℕ
  pub other_hrp : List ℕ
  pub other_data : List ℕ
  pub grammar : IsText text hrp data_part
  pub accepted : IsAccepted code other other_hrp other_data
  pub same_hrp : lowered other_hrp ≡ lowered hrp
  pub same_length : length other ≡ length text
  pub searched : IsSearched code data_part given
  pub erased : length (with_erasures [] given) ≤ bound
  pub few : differences_outside given (elements_of data_part) (elements_of other_data) ≤ errors

-- the list begins with the item
abbrev pub BeginsWith : {A : Type 0} → A → List A → Type 0
BeginsWith item [] = ⊥
BeginsWith item (first ∷ rest) = item ≡ first

-- Bech32 or Bech32m is asked for at most two errors, without given locations, in a data part of at
-- most 89 characters
abbrev pub AsksForTwo : Code → List ℕ → List ℕ → ℕ → Type 0
AsksForTwo code data_part given errors =
    ((code ≡ bech32) ⊎ (code ≡ bech32m)) × (length data_part ≤ 89) × (given ≡ []) × (errors ≤ 2)

-- all texts that are near this one, and no other: each once, in lower case and with the listing
-- that mends this one to it, in the order of the listings; a text that is near itself, and so
-- accepted, comes first
pub record AreNearTexts (code : Code) (bound : ℕ)
    (text given : List ℕ) (errors : ℕ) (found : List (List (ℕ × Fe32) × List ℕ)) : Type 0 where
  pub listings : AreNearestListings code bound text given errors (map (λ m. m.0) found)
  pub each : AllByRecursion (λ m. IsMendedText m.0 text m.1 × Accepts code m.1) found
  pub near : AllByRecursion (λ m. IsNearText code bound text given errors m.1) found
  pub once : IsOnce (map (λ m. m.1) found)
  pub all : (other : List ℕ) → IsNearText code bound text given errors other
      → IsAmong (lowered other) (map (λ m. m.1) found)
  pub itself : IsNearText code bound text given errors text
      → BeginsWith (lowered text) (map (λ m. m.1) found)
  -- so asked, Bech32 and Bech32m have one at most, and any near text is that one
  pub one : AsksForTwo code listings.data_part given errors → length found ≤ 1
  pub only : AsksForTwo code listings.data_part given errors → (other : List ℕ)
      → IsNearText code bound text given errors other
      → map (λ m. m.1) found ≡ lowered other ∷ []

-- a corrector of the text: it has the residue, which may be zero, searches the data part, and has
-- no erasures yet
pub record IsSearcherOf (code : Code) (text : List ℕ) (corrector : Question) : Type 0 where
  pub hrp : List ℕ
  pub data_part : List ℕ
  pub read : HasResidue code text hrp data_part corrector.residue
  pub window : corrector.window ≡ length data_part
  pub fresh : corrector.erasures ≡ []

-- a corrector of the text, or none, where the checksum has no characters: then it accepts the text
abbrev pub IsSearch : Code → List ℕ → Option Question → Type 0
IsSearch code text None = (length code.generator ≡ 0) × Accepts code text
IsSearch code text (Some corrector) =
    (0 < length code.generator) × IsSearcherOf code text corrector

-- Where memory runs out, the text is read by a checksum that has characters. If they are six at
-- most, the given locations are in the data part and no more than the bound; and where twice the
-- errors, with these, are no more than the bound, a text is near.
pub record IsOutOfMemory (code : Code) (bound : ℕ) (text given : List ℕ) (errors : ℕ)
    : Type 0 where
  pub hrp : List ℕ
  pub data_part : List ℕ
  pub residue : List Fe32
  pub read : HasResidue code text hrp data_part residue
  pub some : 0 < length code.generator
  pub searched : length code.generator ≤ 6
      → AreInside data_part given × (length (with_erasures [] given) ≤ bound)
  pub near : length code.generator ≤ 6 → 2 * errors + length (with_erasures [] given) ≤ bound
      → (other : List ℕ) × IsNearText code bound text given errors other

-- why no texts are listed: the text is refused, but not for its residue; or it is refused for
-- nothing else, and memory ran out
abbrev pub IsNearestRefusal : Code → ℕ → List ℕ → List ℕ → ℕ → CorrectError → Type 0
IsNearestRefusal code bound text given errors (Refused e) = IsRefusal code text e
IsNearestRefusal code bound text given errors Memory = IsOutOfMemory code bound text given errors
