use Rattle.std.proofs.Common.{length, ap, ◌∙◌}
use Rattle.bech32_poly.specs.RootSearch.{multiplied_each}
use Rattle.bech32_poly.proofs.Loops.{written_over}
use Rattle.bech32_poly.proofs.fieldvec.FieldVec.multiply_each.Goals as goal

pub returns : goal.returns
returns g c =
    written_over c.self.inside.inner.items c.multiply_each.new.items (c.multiply_each.auto.items ∙ ap (λ u. length u) c.as_mut_slice.ensures.value)
    ∙ c.multiply_each.ensures
    ∙ ap (λ u. multiplied_each g.F.Arithmetic.ops u c.args.factors.now) (c.as_mut_slice.ensures.value ∙ c.self.view_is)
