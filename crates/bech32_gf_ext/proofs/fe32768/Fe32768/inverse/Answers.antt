use Rattle.std.proofs.Common.{◌≡◌, ◌∙◌, sym}
use Rattle.bech32_gf.specs.Fe32 as fe32
use Rattle.bech32_gf_ext.specs.Fe32768.{low, middle, high, norm, inv}
use Rattle.bech32_gf_ext.specs.laws.Fe32768Laws.{same_parts, norm-not_zero}
use Rattle.bech32_gf_ext.proofs.Norms.{norm_from_parts}
use Rattle.bech32_gf_ext.proofs.fe32768.Fe32768.inverse.Goals as goal

pub from_quotients-requires : goal.from_quotients-requires
from_quotients-requires c =
    let x = c.parts.ensures in
    let y = c.adjugate.ensures in
    let whole : c.add-norm.result ≡ norm c.args.self =
    norm_from_parts fe32.ops (low c.args.self) (middle c.args.self) (high c.args.self)
    c.parts.result.0 c.parts.result.1 c.parts.result.2
    c.adjugate.result.0 c.adjugate.result.1 c.adjugate.result.2
    c.mul.result c.mul-2.result c.mul-3.result c.add.result c.add-norm.result
    x.low x.middle x.high y.first y.second y.third
    c.mul.ensures c.mul-2.ensures c.mul-3.ensures c.add.ensures c.add-norm.ensures in
    λ e. norm-not_zero c.args.self c.requires (sym whole ∙ e)

pub returns : goal.returns
unfolding inv
returns c =
    let x = c.parts.ensures in
    let y = c.adjugate.ensures in
    let whole : c.add-norm.result ≡ norm c.args.self =
    norm_from_parts fe32.ops (low c.args.self) (middle c.args.self) (high c.args.self)
    c.parts.result.0 c.parts.result.1 c.parts.result.2
    c.adjugate.result.0 c.adjugate.result.1 c.adjugate.result.2
    c.mul.result c.mul-2.result c.mul-3.result c.add.result c.add-norm.result
    x.low x.middle x.high y.first y.second y.third
    c.mul.ensures c.mul-2.ensures c.mul-3.ensures c.add.ensures c.add-norm.ensures in
    c.from_quotients.ensures
    ∙ same_parts
    (λ i. fe32.mul (y.first i) (fe32.inv (whole i)))
    (λ i. fe32.mul (y.second i) (fe32.inv (whole i)))
    (λ i. fe32.mul (y.third i) (fe32.inv (whole i)))
