use Rattle.bech32_poly.proofs.Trimmed.{IsTrimmed}
use Rattle.bech32_poly.proofs.polynomial.coefficients.trimmed_length.Given as goal

abbrev pub invariant-loop-i : goal.invariant-loop-i
invariant-loop-i g l = IsTrimmed g.F.Arithmetic.ops l.p l.i l.length
