use Rattle.std.proofs.Common.{arith}
use Rattle.bech32_descriptor.proofs.walks.next_put_in.Goals as goal

pub returns-then-place-new-clause-new : goal.returns-then-place-new-clause-new
returns-then-place-new-clause-new c low = absurd (omega arith)
