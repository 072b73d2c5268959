use Rattle.std.proofs.Common.{◌≡◌, ◌++◌, ◌-◌, ◌≤◌, drop, length}
use Rattle.bech32_bits.specs.Bits.{cut_in_eights}
use Rattle.bech32_bits.proofs.plain.eights.Given as goal

abbrev pub invariant-loop-at : goal.invariant-loop-at
invariant-loop-at l = record {
  within : l.at ≤ length l.all;
  cut : l.bytes.items ++ cut_in_eights (drop l.at l.all) ≡ cut_in_eights l.all;
}

abbrev pub decreases-loop-at : goal.decreases-loop-at
decreases-loop-at l = length l.all - l.at
