use Rattle.std.proofs.lemmas.Result.{err_from_is_err_and}
use Rattle.codex32_calls.proofs.derive.put_string.Goals as goal

pub returns-in_err-validate_lengths-clause-refused : goal.returns-in_err-validate_lengths-clause-refused
returns-in_err-validate_lengths-clause-refused c =
    let p = err_from_is_err_and c.from_residual.result c.from_residual.ensures.1 in
    rw p.1 (rw p.2 (rw c.in_err-validate_lengths.ensures.0 (λ left. c.in_err-validate_lengths.ensures.1)))
