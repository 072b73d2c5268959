use Rattle.std.proofs.Common.{◌≡◌, ◌∷◌, ◌∙◌, codes, refl}
use Rattle.line_program.specs.Words.{words}
use Rattle.mend.specs.Request.{Edits, Fault}
use Rattle.mend.proofs.Split.{checksum-no-text, of-arguments, of-suggest}
use Rattle.mend.proofs.command.Command.parse.Goals as goal

pub returns-in_err-checksum-in-edits : goal.returns-in_err-checksum-in-edits
returns-in_err-checksum-in-edits c =
    let spelled : words c.args.line.now ≡ codes "edits" ∷ words c.in_ok-name.arguments.now = cc (c.in_ok-name.ensures.0, c.in-edits.is) in
    rw c.from_residual-in_err-checksum-in-edits.ensures (of-arguments Edits c.args.line.now _ _ spelled refl ∙ c.in_err-checksum-in-edits.ensures Edits)

pub returns-in_ok-checksum-in-edits : goal.returns-in_ok-checksum-in-edits
returns-in_ok-checksum-in-edits c =
    let spelled : words c.args.line.now ≡ codes "edits" ∷ words c.in_ok-name.arguments.now = cc (c.in_ok-name.ensures.0, c.in-edits.is) in
    of-arguments Edits c.args.line.now _ _ spelled refl ∙ c.in_ok-checksum-in-edits.ensures Edits

pub returns-in_err-checksum-in-fault : goal.returns-in_err-checksum-in-fault
returns-in_err-checksum-in-fault c =
    let spelled : words c.args.line.now ≡ codes "fault" ∷ words c.in_ok-name.arguments.now = cc (c.in_ok-name.ensures.0, c.in-fault.is) in
    rw c.from_residual-in_err-checksum-in-fault.ensures (of-arguments Fault c.args.line.now _ _ spelled refl ∙ c.in_err-checksum-in-fault.ensures Fault)

pub returns-in_ok-checksum-in-fault : goal.returns-in_ok-checksum-in-fault
returns-in_ok-checksum-in-fault c =
    let spelled : words c.args.line.now ≡ codes "fault" ∷ words c.in_ok-name.arguments.now = cc (c.in_ok-name.ensures.0, c.in-fault.is) in
    of-arguments Fault c.args.line.now _ _ spelled refl ∙ c.in_ok-checksum-in-fault.ensures Fault

pub returns-in_err-part-in-suggest : goal.returns-in_err-part-in-suggest
returns-in_err-part-in-suggest c =
    let spelled : words c.args.line.now ≡ codes "suggest" ∷ words c.in_ok-name.arguments.now = cc (c.in_ok-name.ensures.0, c.in-suggest.is) in
    rw c.from_residual-in_err-part-in-suggest.ensures (of-suggest c.args.line.now _ _ spelled refl ∙ c.in_err-part-in-suggest.ensures)

pub returns-in_ok-part-in-suggest : goal.returns-in_ok-part-in-suggest
returns-in_ok-part-in-suggest c =
    let spelled : words c.args.line.now ≡ codes "suggest" ∷ words c.in_ok-name.arguments.now = cc (c.in_ok-name.ensures.0, c.in-suggest.is) in
    of-suggest c.args.line.now _ _ spelled refl ∙ c.in_ok-part-in-suggest.ensures

pub returns-in_err-only_word-in-checksum : goal.returns-in_err-only_word-in-checksum
returns-in_err-only_word-in-checksum c =
    let spelled : words c.args.line.now ≡ codes "checksum" ∷ words c.in_ok-name.arguments.now = cc (c.in_ok-name.ensures.0, c.in-checksum.is) in
    rw c.from_residual-in_err-only_word-in-checksum.ensures (checksum-no-text c.args.line.now _ spelled c.in_err-only_word-in-checksum.ensures)
