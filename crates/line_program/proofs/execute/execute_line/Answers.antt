use Rattle.std.proofs.Common.{refl}
use Rattle.std.proofs.lemmas.Result.{err_from_is_err_and}
use Rattle.line_program.proofs.Replied.{Adds-weaker, refused-reply, text-reply}
use Rattle.line_program.proofs.execute.execute_line.Goals as goal

pub returns-in_err-text-clause-outcome : goal.returns-in_err-text-clause-outcome
returns-in_err-text-clause-outcome g c =
    let p = err_from_is_err_and c.from_residual.result c.from_residual.ensures.1 in
    rw p.1 (rw p.2 (refused-reply g.P.Execute.LINE_LIMIT g.P.Execute.request_of g.P.Execute.is_answer c.args.line.now c.in_err-text.field-0.0 (rw c.LINE_LIMIT.ensures at c.in_err-text.ensures.text), refl))

pub returns-in-Ok-clause-outcome : goal.returns-in-Ok-clause-outcome
returns-in-Ok-clause-outcome g c =
    let text = rw c.LINE_LIMIT.ensures at c.in_ok-text.ensures.text in
    Adds-weaker _ _ _ _ (λ said h. text-reply g.P.Execute.LINE_LIMIT g.P.Execute.request_of g.P.Execute.is_answer c.args.line.now text.short said text.utf8 h)
    (rw text.same at c.in-Ok.ensures.outcome)

pub returns-in-Err-clause-outcome : goal.returns-in-Err-clause-outcome
returns-in-Err-clause-outcome g c =
    let text = rw c.LINE_LIMIT.ensures at c.in_ok-text.ensures.text in
    let refused = rw text.same at c.in-Err.ensures.outcome in
    rw c.number.ensures (text-reply g.P.Execute.LINE_LIMIT g.P.Execute.request_of g.P.Execute.is_answer c.args.line.now text.short _ text.utf8 refused.0, refused.1)
