use Rattle.std.proofs.Common.{ap, arith, length, length-append, refl}
use Rattle.std.proofs.lemmas.Result.{err_from_is_err_and}
use Rattle.line_program.proofs.Replied.{refused-reply}
use Rattle.b32_replies.specs.LongRequest.{line_request_of}
use Rattle.b32_replies.specs.Reply.{IsLineAnswer, line_limit}
use Rattle.b32_replies.specs.Request.{request_of_command}
use Rattle.b32_replies.proofs.LongReplies.{adds_any-wider, long-reply, short-reply}
use Rattle.b32_replies.proofs.reply.Commands.answer_line.Goals as goal

pub returns-in_err-text-clause-answer : goal.returns-in_err-text-clause-answer
returns-in_err-text-clause-answer g c =
    let p = err_from_is_err_and c.from_residual.result c.from_residual.ensures.1 in
    rw p.1 (rw p.2 (refused-reply line_limit line_request_of IsLineAnswer c.args.line.now c.in_err-text.field-0.0 c.in_err-text.ensures.text, refl))

pub returns-in_default-clause-answer : goal.returns-in_default-clause-answer
returns-in_default-clause-answer g c =
    let text = c.in_ok-text.ensures.text in
    adds_any-wider _ _ _ c.answer_long.result _ _
    (λ said h. long-reply c.args.line.now text.short text.utf8 said (rw text.same at c.in_default.ensures) (rw text.same at h))
    c.answer_long.ensures.answer

pub returns-in-Err-clause-answer : goal.returns-in-Err-clause-answer
returns-in-Err-clause-answer g c =
    let text = c.in_ok-text.ensures.text in
    let (says, same) = c.in-Err.ensures.answer in
    (rw c.number.ensures.value (short-reply c.args.line.now text.short text.utf8 (request_of_command c.in-Some.command) _ (rw text.same at c.in-Some.ensures) says), same)

pub returns-clause-answer : goal.returns-clause-answer
returns-clause-answer g c =
    let text = c.in_ok-text.ensures.text in
    let a = c.in_default-execute_command.ensures.answer in
    (a.said, short-reply c.args.line.now text.short text.utf8 (request_of_command c.in-Some.command) a.said (rw text.same at c.in-Some.ensures) a.says, a.added)

pub returns-clause-room : goal.returns-clause-room
returns-clause-room g c =
    let a = c.in_default-execute_command.ensures.answer in
    omega (
      arith,
      a.size,
      ap length a.added,
      length-append c.args.out.now.items a.said,
      c.execute_command.ensures.capacity,
      c.execute_command.new.out.ok.0,
      c.args.out.now.ok.0,
      c.requires,
    )
