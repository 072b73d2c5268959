use Rattle.std.proofs.Common.{sym, ◌∙◌}
use Rattle.bech32_gf.specs.laws.FieldLaws.{IsOrder-not_zero}
use Rattle.testing_parts.proofs.tests.fields.order_of_generator.Goals as goal

pub multiplicative_order-requires : goal.multiplicative_order-requires
multiplicative_order-requires g c e =
    let law = g.met.F.Field in
    IsOrder-not_zero g.met.F.Arithmetic.laws _ _ law.generator_law (sym c.GENERATOR-generator.ensures ∙ e)
