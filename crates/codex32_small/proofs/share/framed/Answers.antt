use Rattle.std.proofs.Common.{◌≡◌, ◌∷◌, ℕ, List, take, None, ap, sym, subst, ◌∙◌}
use Rattle.std.proofs.lemmas.Result.{err_from_is_err_and}
use Rattle.bech32_decode.proofs.Grammar.{text_refusal-none}
use Rattle.bech32_decode.specs.Text.{IsText}
use Rattle.codex32.specs.Strings.{frame_refusal_by, is_within_either}
use Rattle.codex32.proofs.ShareParts.{take_front}
use Rattle.codex32.proofs.Refused.{framed_by-from, past_parts}
use Rattle.codex32_small.proofs.share.framed.Goals as goal

pub returns-in_err-validate_outline : goal.returns-in_err-validate_outline
returns-in_err-validate_outline c =
    let text = c.args.text.now in
    let part : List ℕ = c.in_ok-part.part.now in
    let data_part : List ℕ = c.in_ok-part.data_part.now in
    let is : IsText text part data_part = c.in_ok-part.ensures in
    let p = err_from_is_err_and c.from_residual-in_err-validate_outline.result c.from_residual-in_err-validate_outline.ensures.1 in
    rw p.1 (rw p.2 (past_parts is_within_either text part data_part (text_refusal-none text c.utf8.text (part, data_part, is)) is ∙ c.in_err-validate_outline.ensures))

pub returns : goal.returns
returns c =
    let text = c.args.text.now in
    let may = is_within_either in
    let part : List ℕ = c.in_ok-part.part.now in
    let data_part : List ℕ = c.in_ok-part.data_part.now in
    let is : IsText text part data_part = c.in_ok-part.ensures in
    let fine : frame_refusal_by may text ≡ None = past_parts may text part data_part (text_refusal-none text c.utf8.text (part, data_part, is)) is ∙ c.in_ok-validate_outline.ensures in
    let framed = framed_by-from may text part data_part fine is in
    let same : take 2 text ≡ part = ap (take 2) is.split ∙ take_front part (49 ∷ data_part) 2 framed.two in
    (fine, subst (λ (h : List ℕ). IsText text h data_part) (sym same) is)
