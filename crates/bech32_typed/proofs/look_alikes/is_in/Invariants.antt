use Rattle.std.proofs.Common.{◌≡◌, drop}
use Rattle.bech32_typed.specs.Cleaned.{is_in_ranges}
use Rattle.bech32_typed.proofs.look_alikes.is_in.Given as goal

abbrev pub invariant-loop-range : goal.invariant-loop-range
invariant-loop-range l = is_in_ranges (drop l.range-index l.ranges) l.c ≡ is_in_ranges l.ranges l.c
