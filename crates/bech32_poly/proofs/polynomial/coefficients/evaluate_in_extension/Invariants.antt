use Rattle.std.proofs.Common.{◌≡◌, ◌≤◌, length, drop, map}
use Rattle.bech32_gf.specs.Field.{value_at}
use Rattle.bech32_poly.proofs.polynomial.coefficients.evaluate_in_extension.Given as goal

abbrev pub invariant-loop-i : goal.invariant-loop-i
invariant-loop-i g l = record {
  within : l.i ≤ length l.p;
  so_far : l.sum ≡ value_at g.E.Arithmetic.ops l.x (map g.E.Extension.embed (drop l.i l.p));
}

abbrev pub decreases-loop-i : goal.decreases-loop-i
decreases-loop-i g l = l.i
