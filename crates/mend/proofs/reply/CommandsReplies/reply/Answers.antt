use Rattle.std.specs.Prelude.{vec_capacity, vec_len}
use Rattle.std.proofs.Common.{arith}
use Rattle.line_program.proofs.Replied.{ended-reply, room-to_end}
use Rattle.mend.proofs.reply.CommandsReplies.reply.Goals as goal

pub end_reply-requires-clause-room : goal.end_reply-requires-clause-room
end_reply-requires-clause-room c =
    let before = c.args.out.now in
    let after = c.answer_line.new.out in
    room-to_end _ c.answer_line.result before.items after.items (vec_len before) (vec_len after) (vec_capacity before) (vec_capacity after) (omega (arith, before.ok.0)) (omega (arith, after.ok.0)) c.requires
    c.answer_line.ensures.capacity c.answer_line.ensures.room c.answer_line.ensures.answer

pub returns-clause-reply : goal.returns-clause-reply
returns-clause-reply c = ended-reply _ c.answer_line.result _ _ _ c.answer_line.ensures.answer c.end_reply.ensures.items
