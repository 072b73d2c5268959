use Rattle.std.proofs.Common.{◌≡◌}
use Rattle.bech32_gf.proofs.PlainProduct.{partial, shifted}
use Rattle.bech32_gf.proofs.gf32.plain.product.Given as goal

abbrev pub invariant-loop-i : goal.invariant-loop-i
invariant-loop-i l = record {
  sum_so_far : l.sum.value ≡ partial l.i l.fn.a.value l.fn.b.value;
  shifted_by_i : l.shifted.value ≡ shifted l.fn.a.value l.i;
}
