use Rattle.std.specs.Prelude.{vec_capacity, vec_len}
use Rattle.std.proofs.Common.{◌≡◌, arith, length}
use Rattle.line_program.proofs.Replied.{any-from_adds, ended-reply, room-from_adds, room-to_end}
use Rattle.line_program.proofs.execute.AnyReplies.reply.Goals as goal

pub end_reply-requires-clause-room : goal.end_reply-requires-clause-room
end_reply-requires-clause-room g c =
    let answered = c.execute_line in
    let before = c.args.out.now in
    let after = answered.new.out in
    let fine : vec_len before ≡ length before.items = omega (arith, before.ok.0) in
    let also : vec_len after ≡ length after.items = omega (arith, after.ok.0) in
    room-to_end _ answered.result before.items after.items (vec_len before) (vec_len after) (vec_capacity before) (vec_capacity after) fine also c.requires answered.ensures.capacity
    (room-from_adds _ _ answered.result before.items after.items (vec_len before) (vec_len after) (vec_capacity before) (vec_capacity after) fine also c.requires answered.ensures.capacity answered.ensures.outcome)
    (any-from_adds _ _ answered.result _ _ answered.ensures.outcome)

pub returns-clause-reply : goal.returns-clause-reply
returns-clause-reply g c = ended-reply _ c.execute_line.result _ _ _ (any-from_adds _ _ c.execute_line.result _ _ c.execute_line.ensures.outcome) c.end_reply.ensures.items
