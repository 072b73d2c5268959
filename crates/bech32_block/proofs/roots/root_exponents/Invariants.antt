use Rattle.std.proofs.Common.{◌≡◌}
use Rattle.bech32_gf.specs.Field.{power}
use Rattle.bech32_block.proofs.RootList.{exponents_below}
use Rattle.bech32_block.proofs.roots.root_exponents.Given as goal

abbrev pub invariant-loop-exponent : goal.invariant-loop-exponent
invariant-loop-exponent g l = record {
  power_is : l.power ≡ power g.E.Arithmetic.ops g.E.Field.GENERATOR l.exponent;
  roots_are : l.roots.items ≡ exponents_below (record { ops = g.E.Arithmetic.ops; same = g.E.PartialEq.eq; embed = g.E.Extension.embed; generator = g.E.Field.GENERATOR; order = g.E.Field.MULTIPLICATIVE_ORDER }) l.generator l.exponent;
}
