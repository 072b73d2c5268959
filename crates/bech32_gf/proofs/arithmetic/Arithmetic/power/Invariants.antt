use Rattle.std.proofs.Common.{◌≡◌}
use Rattle.bech32_gf.specs.Field.{power}
use Rattle.bech32_gf.proofs.arithmetic.Arithmetic.power.Given as goal

abbrev pub invariant-loop-exponent : goal.invariant-loop-exponent
invariant-loop-exponent g l =
    g.Self.Arithmetic.ops.mul l.product (power g.Self.Arithmetic.ops l.base l.exponent) ≡ power g.Self.Arithmetic.ops l.fn.self l.n

abbrev pub decreases-loop-exponent : goal.decreases-loop-exponent
decreases-loop-exponent g l = l.exponent
