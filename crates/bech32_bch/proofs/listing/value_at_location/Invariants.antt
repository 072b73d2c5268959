use Rattle.std.proofs.Common.{◌≡◌, ◌≤◌, length, drop}
use Rattle.bech32_poly.specs.Pattern.{value_of_pattern_at}
use Rattle.bech32_bch.proofs.listing.value_at_location.Given as goal

abbrev pub invariant-loop-k : goal.invariant-loop-k
invariant-loop-k g l = record { within : l.k ≤ length l.listing; so_far : l.sum ≡ value_of_pattern_at g.F.Arithmetic.ops (drop l.k l.listing) l.location }

abbrev pub decreases-loop-k : goal.decreases-loop-k
decreases-loop-k g l = l.k
