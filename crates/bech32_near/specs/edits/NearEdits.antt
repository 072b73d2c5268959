-- The texts that one edit makes of a text, and that a checksum accepts.
use Rattle.std.specs.Prelude.{◌≡◌, ◌≢◌, ℕ, List, map, Some}
use Rattle.std.specs.List.{AllByRecursion}
use Rattle.bech32_gf.specs.Fe32.{elements_of}
use Rattle.bech32_gf.specs.declared.gf32.Fe32.{Fe32}
use Rattle.bech32_poly.specs.Distinct.{IsAmong, IsNotAmong, IsOnce}
use Rattle.bech32_hrp.specs.Hrp.{lowered}
use Rattle.bech32_checksum.specs.Code.{Code}
use Rattle.bech32_checksum.specs.Encoded.{spelled}
use Rattle.bech32_decode.specs.Acceptance.{Accepts}
use Rattle.bech32_decode.specs.Text.{IsInGrammar, IsText, text_refusal}
use Rattle.bech32_near.specs.edits.Edits.{AreInOrder, IsEdit, IsToldEdit}
use Rattle.bech32_near.specs.declared.edits.edit.Edit.{Edit}
use Rattle.bech32_near.specs.declared.edits.error.EditsError.{EditsError}
use Rattle.bech32_near.specs.declared.edits.error.EditsError.TheVariants.{Memory, Refused}

-- the edit of the data part makes the other text, in either case; the human-readable part is the
-- same
pub record IsEditedText (edit : Edit) (text other : List ℕ) : Type 0 where
  pub hrp : List ℕ
  pub data_part : List ℕ
  pub other_hrp : List ℕ
  pub other_data : List ℕ
  pub grammar : IsText text hrp data_part
  pub other_grammar : IsText other other_hrp other_data
  pub same_hrp : lowered other_hrp ≡ lowered hrp
  pub edit_is : IsEdit edit (elements_of data_part) (elements_of other_data)

-- the edit that is told makes the new text, in lower case
pub record IsToldText (edit : Edit) (text new : List ℕ) : Type 0 where
  pub hrp : List ℕ
  pub data_part : List ℕ
  pub elements : List Fe32
  pub grammar : IsText text hrp data_part
  pub told : IsToldEdit edit (elements_of data_part) elements
  pub spelling : new ≡ spelled hrp elements

-- the text is in the grammar, and these are all texts other than it that one edit makes of it, and
-- that the checksum accepts: each once, in lower case, with its edit, in the order of the edits
pub record AreNearEdits (code : Code) (text : List ℕ) (found : List (Edit × List ℕ))
    : Type 0 where
  pub grammar : IsInGrammar text
  pub each : AllByRecursion (λ m. IsToldText m.0 text m.1 × Accepts code m.1) found
  pub all : (edit : Edit) (other : List ℕ) → IsEditedText edit text other → Accepts code other
      → lowered other ≢ lowered text → IsAmong (lowered other) (map (λ m. m.1) found)
  pub in_order : AreInOrder (map (λ m. m.0) found)
  pub once : IsOnce (map (λ m. m.1) found)
  pub not_itself : IsNotAmong (lowered text) (map (λ m. m.1) found)

-- there is such an edit
abbrev pub HasNearEdit : Code → List ℕ → Type 0
HasNearEdit code text =
    (edit : Edit) × (new : List ℕ) × IsToldText edit text new × Accepts code new

-- why the edits of a text are not told: it is not in the grammar; or there is one at least, and no
-- memory
abbrev pub IsEditsRefusal : Code → List ℕ → EditsError → Type 0
IsEditsRefusal code text (Refused e) = text_refusal text ≡ Some e
IsEditsRefusal code text Memory = HasNearEdit code text
