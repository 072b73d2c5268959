use Rattle.std.proofs.Common.{◌∙◌}
use Rattle.bech32_gf.specs.Fe32 as fe32
use Rattle.bech32_gf_ext.specs.Fe1024.{add}
use Rattle.bech32_gf_ext.specs.laws.Fe1024Laws.{same_parts}
use Rattle.bech32_gf_ext.proofs.fe1024.Fe1024Arithmetic.sum_with.Goals as goal

pub returns : goal.returns
unfolding add
returns c =
    let x = c.parts.ensures in
    let y = c.parts-2.ensures in
    c.from_parts.ensures
    ∙ same_parts
    (c.add.ensures ∙ (λ i. fe32.add (x.low i) (y.low i)))
    (c.add-2.ensures ∙ (λ i. fe32.add (x.high i) (y.high i)))
