use Rattle.std.proofs.Common.{refl}
use Rattle.b32_replies.specs.LongRequest.{request_of_long}
use Rattle.b32_replies.proofs.LongReplies.{long-outcome, no_long-outcome}
use Rattle.b32_replies.proofs.long_reply.answer_long.Goals as goal

pub returns-in_default-clause-answer : goal.returns-in_default-clause-answer
returns-in_default-clause-answer g c = (no_long-outcome c.args.line.now c.in_default.ensures, refl)

pub returns-in-Ok-clause-answer : goal.returns-in-Ok-clause-answer
returns-in-Ok-clause-answer g c =
    let (said, says, added) = c.in-Ok.ensures.answer in
    (said, long-outcome c.args.line.now (request_of_long c.in-Some.command) said c.in-Some.ensures says, added)

pub returns-in-Err-clause-answer : goal.returns-in-Err-clause-answer
returns-in-Err-clause-answer g c =
    let (says, same) = c.in-Err.ensures.answer in
    (rw c.number.ensures.value (long-outcome c.args.line.now (request_of_long c.in-Some.command) _ c.in-Some.ensures says), same)
