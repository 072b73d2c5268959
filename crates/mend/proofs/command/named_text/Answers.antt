use Rattle.std.proofs.Common.{◌≡◌, [], ◌∷◌, sym}
use Rattle.line_program.specs.Words.{words}
use Rattle.mend.proofs.Split.{text-both, text-no-checksum, text-no-text, text-no-word}
use Rattle.mend.proofs.command.named_text.Goals as goal

pub returns-in_err-name : goal.returns-in_err-name
returns-in_err-name c = λ request. rw c.from_residual.ensures (text-no-word request _ c.in_err-name.ensures)

pub returns-in_err-checksum : goal.returns-in_err-checksum
returns-in_err-checksum c = λ request.
    rw c.from_residual-in_err-checksum.ensures (text-no-checksum request _ _ _ c.in_ok-name.ensures.0 (sym c.in_err-checksum.ensures))

pub returns-in_err-text : goal.returns-in_err-text
returns-in_err-text c = λ request. rw c.from_residual-in_err-text.ensures (text-no-text request _ _ _ c.in_ok-name.ensures.0 c.in_err-text.ensures)

pub returns : goal.returns
returns c = λ request.
    let name = c.in_ok-name.name.now in
    let text = c.in_ok-text.text.now in
    let spelled : words c.args.arguments.now ≡ name ∷ text ∷ [] = cc (c.in_ok-name.ensures.0, c.in_ok-text.ensures.0) in
    text-both request _ name text c.in_ok-checksum.checksum spelled c.in_ok-name.ensures.1 c.in_ok-text.ensures.1 (sym c.in_ok-checksum.ensures)
