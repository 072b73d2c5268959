use Rattle.std.proofs.Common.{refl, arith}
use Rattle.bech32_small.proofs.search.error_below.Goals as goal

pub returns-in_err-error : goal.returns-in_err-error
returns-in_err-error c =
    rw c.from_residual.ensures (λ i v below h. c.in_err-error.ensures i v below (λ e. omega (arith, e, below)) h)

pub returns : goal.returns
returns c = let (below, differ, some, leaves) = c.in_ok-error.ensures in (c.in_ok-error.error, refl, (below, (some, leaves)))
