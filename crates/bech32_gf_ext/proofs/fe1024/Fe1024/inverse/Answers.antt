use Rattle.std.proofs.Common.{◌∙◌, sym}
use Rattle.bech32_gf.specs.Fe32 as fe32
use Rattle.bech32_gf_ext.specs.Fe1024.{inv}
use Rattle.bech32_gf_ext.specs.laws.Fe1024Laws.{same_parts, norm-not_zero}
use Rattle.bech32_gf_ext.proofs.fe1024.Fe1024.inverse.Goals as goal

pub div-requires : goal.div-requires
div-requires c = λ e. norm-not_zero c.args.self c.requires (sym c.norm-norm.ensures ∙ e)

pub div-requires-2 : goal.div-requires-2
div-requires-2 c = λ e. norm-not_zero c.args.self c.requires (sym c.norm-norm.ensures ∙ e)

pub returns : goal.returns
unfolding inv
returns c =
    let x = c.parts.ensures in
    c.from_parts.ensures
    ∙ same_parts
    (c.div.ensures ∙ (λ i. fe32.mul ((c.add.ensures ∙ (λ j. fe32.add (x.low j) (x.high j))) i) (fe32.inv (c.norm-norm.ensures i))))
    (c.div-2.ensures ∙ (λ i. fe32.mul (x.high i) (fe32.inv (c.norm-norm.ensures i))))
