use Rattle.std.proofs.Common.{◌∙◌, ap}
use Rattle.testing_parts.proofs.tests.fields.there_and_back.Goals as goal

pub returns : goal.returns
returns g c =
    let law = g.met.E.ExtensionField in
    c.to_base.ensures ∙ ap g.E.Extension.retract (law.from_law _ _ c.from.ensures) ∙ g.met.E.Extension.retract_law c.args.x
