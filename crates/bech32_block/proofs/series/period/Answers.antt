use Rattle.std.proofs.Common.{◌+◌, ◌%◌, refl, arith, rules}
use Rattle.bech32_block.proofs.Exponents.{returned, stepped_more, whole}
use Rattle.bech32_block.proofs.series.period.Goals as goal

pub returns-then-at-eq0 : goal.returns-then-at-eq0
returns-then-at-eq0 c = returned c.args.order c.args.step c.loop-k.k c.loop-k.at ((c.loop-k.at + c.args.step) % c.args.order) c.loop-k.invariant (omega arith) refl (search rules)

pub loop-k-preserved : goal.loop-k-preserved
loop-k-preserved c = stepped_more c.args.order c.args.step c.loop-k.k c.loop-k.at ((c.loop-k.at + c.args.step) % c.args.order) c.loop-k.invariant (omega arith) refl (search rules)

pub returns : goal.returns
returns c = whole c.args.order c.args.step c.loop-k.k c.loop-k.at (omega arith) (omega arith) c.loop-k.invariant
