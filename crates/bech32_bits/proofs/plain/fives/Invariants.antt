use Rattle.std.proofs.Common.{◌≡◌, ◌++◌, ◌-◌, ◌%◌, ◌≤◌, drop, length}
use Rattle.bech32_bits.specs.Bits.{cut_in_fives}
use Rattle.bech32_bits.proofs.plain.fives.Given as goal

abbrev pub invariant-loop-at : goal.invariant-loop-at
invariant-loop-at l = record {
  within : l.at ≤ length l.all;
  whole : (length l.all - l.at) % 5 ≡ 0;
  cut : l.fes.items ++ cut_in_fives (drop l.at l.all) ≡ cut_in_fives l.all;
}

abbrev pub decreases-loop-at : goal.decreases-loop-at
decreases-loop-at l = length l.all - l.at
