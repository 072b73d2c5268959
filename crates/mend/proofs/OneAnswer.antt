-- Where the good answer is right, no other is.
use Rattle.std.proofs.Common.{◌≡◌, ◌⊎◌, ℕ, inl, inr, List, Some, codes, subst}
use Rattle.bech32_gf.specs.declared.gf32.Fe32.{Fe32}
use Rattle.bech32_checksum.specs.Code.{Code, bech32, bech32m}
use Rattle.bech32_correction.specs.Mistyped.{HasResidue}
use Rattle.bech32_correction.specs.declared.error.CorrectError.{CorrectError}
use Rattle.bech32_correction.specs.declared.error.CorrectError.TheVariants.{Memory, Refused}
use Rattle.bech32_decode.specs.Acceptance.{Accepts}
use Rattle.bech32_decode.specs.Text.{IsInGrammar}
use Rattle.bech32_decode.proofs.Grammar.{not_in_grammar}
use Rattle.bech32_near.specs.edits.NearEdits.{IsEditsRefusal, IsToldText}
use Rattle.bech32_near.specs.declared.edits.edit.Edit.{Edit}
use Rattle.bech32_near.specs.declared.edits.error.EditsError.{EditsError}
use Rattle.bech32_near.specs.declared.edits.error.EditsError.TheVariants as edits
use Rattle.b32_replies.specs.Locations.{AreLocations}
use Rattle.b32_replies.proofs.OneAnswer.{one_list}
use Rattle.b32_replies.proofs.Unrefused.{IsUtf8-from_grammar, accepted_unrefused, not_by_both, residue_unrefused}
use Rattle.line_program.specs.Refused.{SaysRefusal, err}
use Rattle.bech32_numbers.specs.Numbers.{number_of_correct_error, number_of_edits_error}
use Rattle.mend.specs.Reply.{IsChecksumAnswer, IsEditsAnswer, IsFaultAnswer, IsNearTextsAnswer, IsNearTextsAtAnswer, IsNearTextsRefusal, SaysAccepted, SaysChecksum, SaysEdits, SaysNear}
use Rattle.mend.specs.Request.{errors_of_word}

-- ---- `nearest`

module _ (code : Code) (text hrp data_part given said : List ℕ) (residue : List Fe32) (read : HasResidue code text hrp data_part residue) (errors : ℕ) where
  not_near : (e : CorrectError) → said ≡ err (number_of_correct_error e) → IsNearTextsRefusal code text e → said ≡ err 91
  not_near (Refused e) spelling h = absurd (residue_unrefused code text hrp data_part residue e read h)
  not_near Memory spelling h = spelling

  near : SaysNear code text given errors said ⊎ SaysRefusal (IsNearTextsRefusal code text) number_of_correct_error said → SaysNear code text given errors said ⊎ (said ≡ err 91)
  near (inl s) = inl s
  near (inr r) = inr (not_near r.error r.spelling r.is_refusal)

  pub near_listed : (word : List ℕ) → errors_of_word word ≡ Some errors → IsNearTextsAnswer code text given word said → SaysNear code text given errors said ⊎ (said ≡ err 91)
  near_listed word is answer = near (rw is at answer)

pub near_at : (code : Code) (text locations given word said : List ℕ) → AreLocations locations given → IsNearTextsAtAnswer code text locations word said → IsNearTextsAnswer code text given word said
near_at code text locations given word said are (inl none) = absurd (none.0 given are)
near_at code text locations given word said are (inr (others, also, answer)) = subst (λ g. IsNearTextsAnswer code text g word said) (one_list locations others given also are) answer

-- ---- `edits`

-- a text of the grammar is refused for memory alone, and only where there is an edit
module _ (code : Code) (text said : List ℕ) (g : IsInGrammar text) where
  no_memory : (e : EditsError) → said ≡ err (number_of_edits_error e) → IsEditsRefusal code text e → (said ≡ err 91) × IsEditsRefusal code text edits.Memory
  no_memory (edits.Refused e) spelling h = absurd (not_in_grammar text e (IsUtf8-from_grammar text g) h g)
  no_memory edits.Memory spelling h = (spelling, h)

  pub edits_listed : IsEditsAnswer code text said → SaysEdits code text said ⊎ (said ≡ err 91)
  edits_listed (inl s) = inl s
  edits_listed (inr r) = inr (no_memory r.error r.spelling r.is_refusal).0

  pub none_listed : ((edit : Edit) (new : List ℕ) → IsToldText edit text new → Accepts code new → ⊥) → IsEditsAnswer code text said → SaysEdits code text said
  none_listed none (inl s) = s
  none_listed none (inr r) = let h = (no_memory r.error r.spelling r.is_refusal).1 in absurd (none h.0 h.1 h.2 h.3)

-- ---- `fault`

pub no_fault : (code : Code) (text said : List ℕ) → Accepts code text → IsFaultAnswer code text said → SaysAccepted code text said
no_fault code text said a (inl s) = s
no_fault code text said a (inr f) = absurd (accepted_unrefused code text f.error a f.is_refusal)

-- ---- `checksum`

pub named_bech32m : (text said : List ℕ) → Accepts bech32m text → IsChecksumAnswer text said → SaysChecksum bech32m (codes "bech32m") text said
named_bech32m text said a (inl s) = s
named_bech32m text said a (inr (inl s)) = absurd (not_by_both text a s.accepted)
named_bech32m text said a (inr (inr r)) = absurd (accepted_unrefused bech32m text r.error a r.is_refusal.0)

pub named_bech32 : (text said : List ℕ) → Accepts bech32 text → IsChecksumAnswer text said → SaysChecksum bech32 (codes "bech32") text said
named_bech32 text said a (inl s) = absurd (not_by_both text s.accepted a)
named_bech32 text said a (inr (inl s)) = s
named_bech32 text said a (inr (inr r)) = absurd (r.is_refusal.1 a)
