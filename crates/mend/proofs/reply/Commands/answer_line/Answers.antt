use Rattle.std.proofs.Common.{refl}
use Rattle.std.proofs.lemmas.Result.{err_from_is_err_and}
use Rattle.line_program.specs.Limit.{longest_line}
use Rattle.line_program.proofs.Replied.{answer-reply, no_command-reply, refused-reply}
use Rattle.mend.specs.Reply.{IsMendAnswer}
use Rattle.mend.specs.Request.{mend_line_request_of, mend_request_of_command}
use Rattle.mend.proofs.Replies.{adds-wider}
use Rattle.mend.proofs.reply.Commands.answer_line.Goals as goal

pub returns-in_err-text-clause-answer : goal.returns-in_err-text-clause-answer
returns-in_err-text-clause-answer c =
    let p = err_from_is_err_and c.from_residual.result c.from_residual.ensures.1 in
    rw p.1 (rw p.2 (refused-reply longest_line mend_line_request_of IsMendAnswer c.args.line.now c.in_err-text.field-0.0 c.in_err-text.ensures.text, refl))

pub returns-in_default-clause-answer : goal.returns-in_default-clause-answer
returns-in_default-clause-answer c =
    let text = c.in_ok-text.ensures.text in
    (no_command-reply longest_line mend_line_request_of IsMendAnswer c.args.line.now text.short text.utf8 (rw text.same at c.in_default.ensures), refl)

pub returns-clause-answer : goal.returns-clause-answer
returns-clause-answer c =
    let text = c.in_ok-text.ensures.text in
    adds-wider _ _ c.answer.result _ _
    (λ said h. answer-reply longest_line mend_line_request_of IsMendAnswer c.args.line.now text.short text.utf8 (mend_request_of_command c.in-Some.command) said (rw text.same at c.in-Some.ensures) h)
    c.answer.ensures.answer
