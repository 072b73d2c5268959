use Rattle.std.proofs.Common.{◌≡◌, ◌≤◌, length, drop}
use Rattle.bech32_bch.specs.Knock.{gap}
use Rattle.bech32_bch.proofs.terms.distances.Given as goal

abbrev pub invariant-loop-i : goal.invariant-loop-i
invariant-loop-i g l = record { within : l.i ≤ length l.others; so_far : l.product ≡ gap g.K.Arithmetic.ops l.here (drop l.i l.others) }

abbrev pub decreases-loop-i : goal.decreases-loop-i
decreases-loop-i g l = l.i
