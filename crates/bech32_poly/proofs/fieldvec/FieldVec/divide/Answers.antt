use Rattle.std.proofs.Common.{◌≡◌, length, subst, sym, ap, ◌∙◌}
use Rattle.bech32_poly.specs.Remainder.{IsRemainder}
use Rattle.bech32_poly.proofs.Loops.{written_over}
use Rattle.bech32_poly.proofs.fieldvec.FieldVec.divide.Goals as goal

pub returns : goal.returns
returns g c =
    let same : length c.divide.new.rest ≡ length c.self.inside.inner.items = c.divide.auto.rest ∙ ap length c.as_mut_slice.ensures.value in
    subst (IsRemainder g.F.Arithmetic.ops c.args.low.now c.args.polynomial.now) (sym (written_over c.self.inside.inner.items c.divide.new.rest same)) c.divide.ensures
