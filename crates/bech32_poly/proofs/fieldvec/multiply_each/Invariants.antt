use Rattle.std.proofs.Common.{◌≡◌, take}
use Rattle.bech32_poly.specs.RootSearch.{multiplied_each}
use Rattle.bech32_poly.proofs.fieldvec.multiply_each.Given as goal

abbrev pub invariant-loop-i : goal.invariant-loop-i
invariant-loop-i g l = l.items ≡ multiplied_each g.F.Arithmetic.ops l.fn.items (take l.i l.factors)
