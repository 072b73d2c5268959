use Rattle.std.proofs.Common.{◌≡◌, take, map}
use Rattle.bech32_gf.specs.Field.{power}
use Rattle.bech32_poly.proofs.RootTerms.{terms_from, factors_from}
use Rattle.bech32_poly.proofs.polynomial.roots.RootIter.new.Given as goal

abbrev pub invariant-loop-coefficient : goal.invariant-loop-coefficient
invariant-loop-coefficient g l = record {
  terms_are : l.terms ≡ terms_from g.E.Arithmetic.ops l.first 0 (map g.E.Extension.embed (take l.coefficient-index l.coefficient-items));
  factors_are : l.factors ≡ factors_from g.E.Arithmetic.ops l.base 0 l.coefficient-index;
  power_is : l.power ≡ power g.E.Arithmetic.ops l.first l.coefficient-index;
  factor_is : l.factor ≡ power g.E.Arithmetic.ops l.base l.coefficient-index;
}
