use Rattle.std.proofs.Common.{refl}
use Rattle.std.proofs.lemmas.Result.{err_from_is_err_and}
use Rattle.line_program.specs.Limit.{longest_line}
use Rattle.line_program.proofs.Replied.{answer-reply, no_command-reply, refused-reply}
use Rattle.c32_replies.specs.Reply.{IsCodex32Answer}
use Rattle.c32_replies.specs.Request.{codex32_request_of, codex32_request_of_command}
use Rattle.c32_replies.proofs.reply.Commands.answer_line.Goals as goal

pub returns-in_err-text-clause-answer : goal.returns-in_err-text-clause-answer
returns-in_err-text-clause-answer g c =
    let p = err_from_is_err_and c.from_residual.result c.from_residual.ensures.1 in
    rw p.1 (rw p.2 (refused-reply longest_line codex32_request_of IsCodex32Answer c.args.line.now c.in_err-text.field-0.0 c.in_err-text.ensures.text, refl))

pub returns-in_default-clause-answer : goal.returns-in_default-clause-answer
returns-in_default-clause-answer g c =
    let text = c.in_ok-text.ensures.text in
    (no_command-reply longest_line codex32_request_of IsCodex32Answer c.args.line.now text.short text.utf8 (rw text.same at c.in_default.ensures), refl)

pub returns-clause-answer : goal.returns-clause-answer
returns-clause-answer g c =
    let text = c.in_ok-text.ensures.text in
    let request = codex32_request_of_command c.in-Some.command in
    let (said, says, added) = c.in_ok-answer.ensures.answer in
    (said, answer-reply longest_line codex32_request_of IsCodex32Answer c.args.line.now text.short text.utf8 request said (rw text.same at c.in-Some.ensures) says, added)

pub returns-in_err-answer-clause-answer : goal.returns-in_err-answer-clause-answer
returns-in_err-answer-clause-answer g c =
    let text = c.in_ok-text.ensures.text in
    let request = codex32_request_of_command c.in-Some.command in
    let refused = c.in_err-answer.ensures.answer in
    let p = err_from_is_err_and c.from_residual-in_err-answer.result c.from_residual-in_err-answer.ensures.1 in
    rw p.1 (rw p.2.0 (answer-reply longest_line codex32_request_of IsCodex32Answer c.args.line.now text.short text.utf8 request _ (rw text.same at c.in-Some.ensures) refused.0, refused.1))

pub returns-in_err-answer-clause-small : goal.returns-in_err-answer-clause-small
returns-in_err-answer-clause-small g c =
    let p = err_from_is_err_and c.from_residual-in_err-answer.result c.from_residual-in_err-answer.ensures.1 in
    rw p.1 p.2.1
