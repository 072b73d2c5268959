use Rattle.std.proofs.Common.{◌∙◌, sym}
use Rattle.std.proofs.lemmas.Result.{err_from_is_err_and}
use Rattle.bech32_decode.specs.Text.{IsText}
use Rattle.bech32_decode.proofs.Grammar.{only-from_IsText, not_in_grammar, text_refusal-none}
use Rattle.bech32_decode.proofs.unchecked.UncheckedHrpstring.new.Goals as goal

pub returns-in_err-part-clause-accepts : goal.returns-in_err-part-clause-accepts
returns-in_err-part-clause-accepts c =
    let p = err_from_is_err_and c.from_residual.result c.from_residual.ensures.1 in
    rw p.1 (λ ok. absurd cc, λ g. absurd (not_in_grammar c.args.s.now c.in_err-part.field-0.0 c.utf8.s c.in_err-part.ensures g))

pub returns-clause-only : goal.returns-clause-only
returns-clause-only c =
    let is : IsText c.args.s.now c.in_ok-part.part.now c.in_ok-part.data_part_ascii.now = c.in_ok-part.ensures in
    λ h d other. (let p = only-from_IsText c.args.s.now c.in_ok-part.part.now c.in_ok-part.data_part_ascii.now is h d other.split other.data_bytes in (p.0 ∙ sym c.of_bytes.ensures, p.1))

pub returns-clause-refused : goal.returns-clause-refused
returns-clause-refused c = text_refusal-none c.args.s.now c.utf8.s (c.in_ok-part.part.now, c.in_ok-part.data_part_ascii.now, c.in_ok-part.ensures)
