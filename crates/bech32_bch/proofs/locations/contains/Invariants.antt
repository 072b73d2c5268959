use Rattle.std.proofs.Common.{◌≡◌, ◌≤◌, length, drop}
use Rattle.bech32_bch.specs.Erasures.{has}
use Rattle.bech32_bch.proofs.locations.contains.Given as goal

abbrev pub invariant-loop-i : goal.invariant-loop-i
invariant-loop-i l = record { within : l.i ≤ length l.locations; so_far : l.found ≡ has (drop l.i l.locations) l.location }

abbrev pub decreases-loop-i : goal.decreases-loop-i
decreases-loop-i l = l.i
