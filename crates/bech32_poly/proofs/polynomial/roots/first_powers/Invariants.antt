use Rattle.std.proofs.Common.{◌≡◌}
use Rattle.bech32_gf.specs.Field.{power}
use Rattle.bech32_gf.specs.Powers.{powers_of}
use Rattle.bech32_poly.proofs.polynomial.roots.first_powers.Given as goal

abbrev pub invariant-loop : goal.invariant-loop
invariant-loop g l = record {
  powers_are : l.powers ≡ powers_of g.F.Arithmetic.ops l.base 0 l.counter;
  power_is : l.power ≡ power g.F.Arithmetic.ops l.base l.counter;
}
