use Rattle.std.proofs.Common.{◌≡◌, ◌≤◌, length, drop}
use Rattle.bech32_poly.specs.Division.{remainder_of}
use Rattle.bech32_poly.proofs.polynomial.division.divide.Given as goal

abbrev pub invariant-loop-i : goal.invariant-loop-i
invariant-loop-i g l = record {
  within : l.i ≤ length l.polynomial;
  so_far : l.rest ≡ remainder_of g.F.Arithmetic.ops l.low (drop l.i l.polynomial);
}

abbrev pub decreases-loop-i : goal.decreases-loop-i
decreases-loop-i g l = l.i
