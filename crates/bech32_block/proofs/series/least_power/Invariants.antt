use Rattle.bech32_block.proofs.Exponents.{Tried}
use Rattle.bech32_block.proofs.series.least_power.Given as goal

abbrev pub invariant-loop-k : goal.invariant-loop-k
invariant-loop-k l = Tried l.order l.step l.wanted l.k l.at
