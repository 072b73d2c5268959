use Rattle.std.proofs.Common.{sym}
use Rattle.line_program.proofs.Told.{told_front, told_or_failed}
use Rattle.line_program.proofs.exit.exit_code_on.Goals as goal

pub returns-in-Err-clause-err : goal.returns-in-Err-clause-err
returns-in-Err-clause-err g c =
    rw (c.in-Err.is, sym c.words.ensures) (λ unmarked. told_or_failed c.tell.result _ _ c.tell.ensures.ok c.tell.ensures.err_mark unmarked)

pub returns-in-Err-clause-beginning : goal.returns-in-Err-clause-beginning
returns-in-Err-clause-beginning g c = rw (c.in-Err.is, sym c.words.ensures) (told_front c.tell.result _ _ _ c.tell.ensures.ok c.tell.ensures.beginning)
