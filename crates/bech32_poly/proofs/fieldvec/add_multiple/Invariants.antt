use Rattle.std.proofs.Common.{◌≡◌, take}
use Rattle.bech32_poly.specs.Polynomial.{add, scale}
use Rattle.bech32_poly.specs.Window.{shifted}
use Rattle.bech32_poly.proofs.fieldvec.add_multiple.Given as goal

abbrev pub invariant-loop-i : goal.invariant-loop-i
invariant-loop-i g l = l.target ≡ add g.F.Arithmetic.ops l.fn.target (scale g.F.Arithmetic.ops l.factor (shifted g.F.Arithmetic.ops l.shift (take l.i l.source)))
