use Rattle.std.proofs.Common.{◌≡◌, ◌≤◌, length, drop}
use Rattle.bech32_poly.specs.RootSearch.{total_of}
use Rattle.bech32_poly.proofs.polynomial.roots.total.Given as goal

abbrev pub invariant-loop-i : goal.invariant-loop-i
invariant-loop-i g l = record {
  within : l.i ≤ length l.items;
  so_far : l.sum ≡ total_of g.F.Arithmetic.ops (drop l.i l.items);
}

abbrev pub decreases-loop-i : goal.decreases-loop-i
decreases-loop-i g l = l.i
