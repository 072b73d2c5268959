use Rattle.std.proofs.Common.{◌≡◌, ◌-◌, ◌≤◌, length, drop}
use Rattle.bech32_poly.specs.Polynomial.{coefficient}
use Rattle.bech32_poly.specs.Register.{back_sum}
use Rattle.bech32_poly.proofs.lfsr.weighted.Given as goal

abbrev pub invariant-loop-i : goal.invariant-loop-i
invariant-loop-i g l = record {
  within : l.i ≤ length l.coefficients;
  sum_so_far : l.sum ≡ back_sum g.F.Arithmetic.ops (drop l.i l.coefficients) (coefficient g.F.Arithmetic.ops l.items) (length l.items - l.i);
}

abbrev pub decreases-loop-i : goal.decreases-loop-i
decreases-loop-i g l = l.i
