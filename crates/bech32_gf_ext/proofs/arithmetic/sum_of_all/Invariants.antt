use Rattle.std.proofs.Common.{◌≡◌, fold}
use Rattle.bech32_gf_ext.proofs.arithmetic.sum_of_all.Given as goal

abbrev pub invariant-loop-item : goal.invariant-loop-item
invariant-loop-item g l = l.total ≡ fold g.E.Arithmetic.sum g.E.Arithmetic.zero l.yielded
