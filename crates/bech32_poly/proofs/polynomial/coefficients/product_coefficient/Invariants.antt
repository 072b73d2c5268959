use Rattle.std.proofs.Common.{◌≡◌, take}
use Rattle.bech32_poly.proofs.Products.{convolved}
use Rattle.bech32_poly.proofs.polynomial.coefficients.product_coefficient.Given as goal

abbrev pub invariant-loop-i : goal.invariant-loop-i
invariant-loop-i g l = l.sum ≡ convolved g.F.Arithmetic.ops (take l.i l.p) l.q l.n
