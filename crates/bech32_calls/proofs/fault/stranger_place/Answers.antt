use Rattle.std.proofs.Common.{arith}
use Rattle.bech32_calls.proofs.Strangers.{stranger-at}
use Rattle.bech32_calls.proofs.fault.stranger_place.Goals as goal

pub returns : goal.returns
returns c p h =
    omega (arith, c.saturating_sub.ensures, stranger-at c.args.text.now p c.end_of-end.result c.end_of.result h c.end_of-end.ensures c.end_of.ensures)
