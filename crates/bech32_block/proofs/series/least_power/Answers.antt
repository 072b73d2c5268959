use Rattle.std.proofs.Common.{refl, arith, rules}
use Rattle.bech32_block.proofs.Exponents.{tried_more, never}
use Rattle.bech32_block.proofs.series.least_power.Goals as goal

pub loop-k-preserved : goal.loop-k-preserved
loop-k-preserved c = tried_more c.args.order c.args.step c.args.wanted c.loop-k.k c.loop-k.at _ c.loop-k.invariant (search rules) refl

pub returns-clause-least : goal.returns-clause-least
returns-clause-least c = never c.args.order c.args.step c.args.wanted c.loop-k.k c.loop-k.at (omega arith) (omega arith) c.loop-k.invariant
