use Rattle.std.proofs.Common.{refl}
use Rattle.std.proofs.lemmas.Result.{err_from_is_err_and}
use Rattle.c32_replies.proofs.Replies.{says-not_looked}
use Rattle.c32_replies.proofs.reply.Commands.propose.Goals as goal

pub returns-in_err-nearest-clause-answer : goal.returns-in_err-nearest-clause-answer
returns-in_err-nearest-clause-answer g c =
    let p = err_from_is_err_and c.from_residual.result c.from_residual.ensures.1 in
    rw p.1 (rw p.2 (says-not_looked c.args.text.now c.in_err-nearest.field-0.0 c.in_err-nearest.ensures.refused, refl))
