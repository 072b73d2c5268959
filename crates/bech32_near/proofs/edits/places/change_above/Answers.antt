use Rattle.std.proofs.Common.{◌∙◌}
use Rattle.bech32_gf.specs.Fe32 as fe32
use Rattle.bech32_near.proofs.edits.places.change_above.Goals as goal

pub returns : goal.returns
returns c _ = c.add.ensures ∙ (λ i. fe32.add (c.element_at-here.ensures i) (c.element_at.ensures i))
