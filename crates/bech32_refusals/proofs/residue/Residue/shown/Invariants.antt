use Rattle.bech32_refusals.proofs.Shown.{IsCut}
use Rattle.bech32_refusals.proofs.residue.Residue.shown.Given as goal

abbrev pub invariant-loop-i : goal.invariant-loop-i
invariant-loop-i l = IsCut l.self.digits l.i l.shown
