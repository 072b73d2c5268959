use Rattle.std.proofs.Common.{◌≡◌, ◌+◌, ◌≤◌, length, drop}
use Rattle.bech32_poly.specs.Window.{act}
use Rattle.bech32_poly.specs.Polynomial.{coefficient}
use Rattle.bech32_poly.proofs.lfsr.window_sum.Given as goal

abbrev pub invariant-loop-i : goal.invariant-loop-i
invariant-loop-i g l = record {
  within : l.i ≤ length l.register;
  sum_so_far : l.sum ≡ act g.F.Arithmetic.ops (drop l.i l.register) (coefficient g.F.Arithmetic.ops l.items) (l.start + l.i);
}

-- proposed from the loop's first test
abbrev pub decreases-loop-i : goal.decreases-loop-i
decreases-loop-i g l = l.i
