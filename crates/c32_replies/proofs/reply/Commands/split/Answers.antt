use Rattle.std.proofs.Common.{◌*◌, refl, take}
use Rattle.c32_replies.specs.Request.{asked_by}
use Rattle.c32_replies.proofs.SplitAnswer.{says-no_memory}
use Rattle.c32_replies.proofs.reply.Commands.split.Goals as goal

pub returns-in_default-clause-answer : goal.returns-in_default-clause-answer
returns-in_default-clause-answer g c =
    let texts = take (c.in_ok-count.count * c.in_ok-count.size) c.put_shares.new.texts in
    (says-no_memory (asked_by c.args.words.now) c.in_ok-count.count c.in_ok-count.size texts c.in_ok-count.ensures.0, refl)

pub returns-clause-answer : goal.returns-clause-answer
returns-clause-answer g c =
    let texts = take (c.in_ok-count.count * c.in_ok-count.size) c.put_shares.new.texts in
    (says-no_memory (asked_by c.args.words.now) c.in_ok-count.count c.in_ok-count.size texts c.in_ok-count.ensures.0, c.in-Err.ensures.items)
