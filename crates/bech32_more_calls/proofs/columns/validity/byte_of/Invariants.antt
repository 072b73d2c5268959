use Rattle.std.proofs.Common.{◌≡◌, ◌≤◌, drop, length}
use Rattle.bech32_more_calls.specs.columns.Validity.{validity_bits}
use Rattle.bech32_more_calls.proofs.columns.validity.byte_of.Given as goal

-- the bits of the numbers from one on
abbrev pub invariant-loop-i : goal.invariant-loop-i
invariant-loop-i l = record {
  within : l.i ≤ length l.numbers;
  bits : l.byte ≡ validity_bits (drop l.i l.numbers);
}

abbrev pub decreases-loop-i : goal.decreases-loop-i
decreases-loop-i l = l.i
