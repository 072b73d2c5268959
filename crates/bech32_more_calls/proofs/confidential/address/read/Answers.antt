use Rattle.std.proofs.lemmas.Result.{err_from_is_err_and}
use Rattle.bech32_more_calls.proofs.confidential.address.read.Goals as goal

pub returns-in_err-address : goal.returns-in_err-address
returns-in_err-address c =
    let p = err_from_is_err_and c.from_residual.result c.from_residual.ensures.1 in
    rw p.1 (λ m n. rw p.2 (c.in-Ok.ensures.1, rw c.in-Ok.ensures.0 at c.in_err-address.ensures.refused))
