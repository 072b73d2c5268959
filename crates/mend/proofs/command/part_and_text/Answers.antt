use Rattle.std.proofs.Common.{◌≡◌, [], ◌∷◌}
use Rattle.line_program.specs.Words.{words}
use Rattle.mend.proofs.Split.{suggest-both, suggest-no-text, suggest-no-word}
use Rattle.mend.proofs.command.part_and_text.Goals as goal

pub returns-in_err-part : goal.returns-in_err-part
returns-in_err-part c = rw c.from_residual.ensures (suggest-no-word _ c.in_err-part.ensures)

pub returns-in_err-text : goal.returns-in_err-text
returns-in_err-text c = rw c.from_residual-in_err-text.ensures (suggest-no-text _ _ _ c.in_ok-part.ensures.0 c.in_err-text.ensures)

pub returns : goal.returns
returns c =
    let part = c.in_ok-part.part.now in
    let text = c.in_ok-text.text.now in
    let spelled : words c.args.arguments.now ≡ part ∷ text ∷ [] = cc (c.in_ok-part.ensures.0, c.in_ok-text.ensures.0) in
    suggest-both _ part text spelled c.in_ok-part.ensures.1 c.in_ok-text.ensures.1
