use Rattle.bech32_block.proofs.Exponents.{Stepped}
use Rattle.bech32_block.proofs.series.period.Given as goal

abbrev pub invariant-loop-k : goal.invariant-loop-k
invariant-loop-k l = Stepped l.order l.step l.k l.at
