use Rattle.std.specs.Prelude.{vec_capacity, vec_len}
use Rattle.std.proofs.Common.{arith, refl}
use Rattle.line_program.specs.Words.{words}
use Rattle.line_program.proofs.Replied.{any-from_adds, room-from_adds}
use Rattle.c32_replies.proofs.Replies.{says-at_secret}
use Rattle.c32_replies.proofs.reply.Commands.answer.Goals as goal

pub returns-in-Encode-clause-answer : goal.returns-in-Encode-clause-answer
returns-in-Encode-clause-answer g c = rw c.in-Encode.is (any-from_adds _ _ c.encode.result _ _ c.encode.ensures.answer)

pub returns-in-Derive-clause-answer : goal.returns-in-Derive-clause-answer
returns-in-Derive-clause-answer g c = rw c.in-Derive.is (any-from_adds _ _ c.derive.result _ _ c.derive.ensures.answer)

pub returns-in-Recover-clause-answer : goal.returns-in-Recover-clause-answer
returns-in-Recover-clause-answer g c =
    rw c.in-Recover.is
    (any-from_adds _ _ c.derive_at.result _ _
    (says-at_secret (words c.in-Recover.texts.now) c.derive_at.result c.args.out.now.items c.derive_at.new.out.items _ c.derive_at.ensures.answer refl))

pub returns-in-Encode-clause-room : goal.returns-in-Encode-clause-room
returns-in-Encode-clause-room g c =
    room-from_adds _ _ c.encode.result c.args.out.now.items c.encode.new.out.items (vec_len c.args.out.now) (vec_len c.encode.new.out) (vec_capacity c.args.out.now) (vec_capacity c.encode.new.out)
    (omega (arith, c.args.out.now.ok.0)) (omega (arith, c.encode.new.out.ok.0)) c.requires c.encode.ensures.capacity c.encode.ensures.answer

pub returns-in-Derive-clause-room : goal.returns-in-Derive-clause-room
returns-in-Derive-clause-room g c =
    room-from_adds _ _ c.derive.result c.args.out.now.items c.derive.new.out.items (vec_len c.args.out.now) (vec_len c.derive.new.out) (vec_capacity c.args.out.now) (vec_capacity c.derive.new.out)
    (omega (arith, c.args.out.now.ok.0)) (omega (arith, c.derive.new.out.ok.0)) c.requires c.derive.ensures.capacity c.derive.ensures.answer

pub returns-in-Recover-clause-room : goal.returns-in-Recover-clause-room
returns-in-Recover-clause-room g c =
    room-from_adds _ _ c.derive_at.result c.args.out.now.items c.derive_at.new.out.items (vec_len c.args.out.now) (vec_len c.derive_at.new.out) (vec_capacity c.args.out.now) (vec_capacity c.derive_at.new.out)
    (omega (arith, c.args.out.now.ok.0)) (omega (arith, c.derive_at.new.out.ok.0)) c.requires c.derive_at.ensures.capacity c.derive_at.ensures.answer

pub returns-in-Share-clause-answer : goal.returns-in-Share-clause-answer
returns-in-Share-clause-answer g c = rw c.in-Share.is (any-from_adds _ _ c.share.result _ _ c.share.ensures.answer)

pub returns-in-Split-clause-answer : goal.returns-in-Split-clause-answer
returns-in-Split-clause-answer g c = rw c.in-Split.is c.split.ensures.answer
