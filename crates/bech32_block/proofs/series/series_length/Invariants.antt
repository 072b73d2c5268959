use Rattle.bech32_block.proofs.Walks.{Walk}
use Rattle.bech32_block.proofs.series.series_length.Given as goal

abbrev pub invariant-loop-length : goal.invariant-loop-length
invariant-loop-length l = Walk l.order l.roots l.first l.step l.length l.at
