use Rattle.std.proofs.Common.{◌≡◌, ◌∷◌, true, false, sym, ap, ◌∙◌}
use Rattle.std.proofs.lemmas.Result.{err_from_is_err_and}
use Rattle.bech32_decode.specs.Text.{as_hrp}
use Rattle.bech32_hrp.proofs.HrpTexts.{hrp_refusal-none}
use Rattle.bech32_hrp.specs.Hrp.{IsHrp, is_mixed_case}
use Rattle.bech32_decode.proofs.OneCase.{one_case-front}
use Rattle.codex32.proofs.Separated.{is_split}
use Rattle.codex32.proofs.ReadTexts.{none_behind, parts-read, past_cases, refused_cases, refused_character}
use Rattle.codex32.proofs.damaged.validate_grammar.Goals as goal

pub validate_data-requires : goal.validate_data-requires
validate_data-requires c = none_behind c.args.text.now c.args.front.now c.args.damaged.now c.requires

pub returns-in_err-validate_data : goal.returns-in_err-validate_data
returns-in_err-validate_data c =
    let p = err_from_is_err_and c.from_residual.result c.from_residual.ensures.1 in
    rw p.1 (rw p.2 (refused_character c.args.text.now c.args.front.now c.args.damaged.now c.requires c.utf8.front c.utf8.damaged c.in_err-validate_data.field-0.0 c.in_err-validate_data.ensures))

pub returns-then-has_both_cases : goal.returns-then-has_both_cases
returns-then-has_both_cases c =
    let mixed : is_mixed_case c.args.text.now ≡ true = ap is_mixed_case (sym c.as_bytes.ensures.value) ∙ sym c.has_both_cases.ensures ∙ c.if-has_both_cases.true in
    refused_cases c.args.text.now c.args.front.now c.args.damaged.now c.requires c.utf8.front c.utf8.damaged c.in_ok-validate_data.ensures mixed

pub part_fault-requires : goal.part_fault-requires
part_fault-requires c =
    let one : is_mixed_case c.args.text.now ≡ false = ap is_mixed_case (sym c.as_bytes.ensures.value) ∙ sym c.has_both_cases.ensures ∙ c.if-has_both_cases.false in
    one_case-front c.args.text.now c.args.front.now (49 ∷ c.args.damaged.now) (is_split c.args.text.now c.args.front.now c.args.damaged.now c.requires).split one

pub returns-in-Some : goal.returns-in-Some
returns-in-Some c =
    let one : is_mixed_case c.args.text.now ≡ false = ap is_mixed_case (sym c.as_bytes.ensures.value) ∙ sym c.has_both_cases.ensures ∙ c.if-has_both_cases.false in
    past_cases c.args.text.now c.args.front.now c.args.damaged.now c.requires c.utf8.front c.utf8.damaged c.in_ok-validate_data.ensures one
    ∙ ap as_hrp c.in-Some.ensures

pub returns : goal.returns
returns c =
    let one : is_mixed_case c.args.text.now ≡ false = ap is_mixed_case (sym c.as_bytes.ensures.value) ∙ sym c.has_both_cases.ensures ∙ c.if-has_both_cases.false in
    let is : IsHrp c.args.front.now = c.in_default.ensures in (
      past_cases c.args.text.now c.args.front.now c.args.damaged.now c.requires c.utf8.front c.utf8.damaged c.in_ok-validate_data.ensures one
          ∙ ap as_hrp (hrp_refusal-none c.args.front.now is),
      parts-read c.args.text.now c.args.front.now c.args.damaged.now c.requires is c.in_ok-validate_data.ensures one,
    )
