use Rattle.line_program.specs.Words.{words}
use Rattle.c32_replies.proofs.Replies.{says-at_index}
use Rattle.c32_replies.proofs.reply.Commands.derive.Goals as goal

pub returns-clause-answer : goal.returns-clause-answer
returns-clause-answer g c =
    says-at_index c.args.share_index.now (words c.args.texts.now) c.in_ok-index.index c.derive_at.result _ _ c.in_ok-index.ensures.0 c.in_ok-index.ensures.1 c.derive_at.ensures.answer
