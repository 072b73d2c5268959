use Rattle.bech32_block.proofs.Pairs.{Best}
use Rattle.bech32_block.proofs.series.longest_series.Given as goal

abbrev pub invariant-loop-i : goal.invariant-loop-i
invariant-loop-i l = Best l.order l.roots l.i 0 l.best.first l.best.step l.best.length

abbrev pub invariant-loop-j : goal.invariant-loop-j
invariant-loop-j l = Best l.order l.roots l.i l.j l.best.first l.best.step l.best.length
