use Rattle.std.proofs.Common.{◌≡◌}
use Rattle.bech32_refusals.proofs.Sums.{partly}
use Rattle.bech32_refusals.proofs.residue.Residue.less.Given as goal

abbrev pub invariant-loop-i : goal.invariant-loop-i
invariant-loop-i l = l.digits ≡ partly l.i l.self.digits l.other.digits
