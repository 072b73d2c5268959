use Rattle.std.proofs.Common.{◌≡◌, ◌≤◌, ◌++◌, length, drop}
use Rattle.std.specs.Prelude.{reverse}
use Rattle.bech32_bch.proofs.locations.push_turned.Given as goal

abbrev pub invariant-loop-i : goal.invariant-loop-i
invariant-loop-i g l = record { within : l.i ≤ length l.items; so_far : l.list ≡ l.fn.list ++ reverse (drop l.i l.items) }

abbrev pub decreases-loop-i : goal.decreases-loop-i
decreases-loop-i g l = l.i
