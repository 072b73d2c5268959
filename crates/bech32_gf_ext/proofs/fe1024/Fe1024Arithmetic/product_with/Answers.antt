use Rattle.std.proofs.Common.{◌∙◌}
use Rattle.bech32_gf.specs.Fe32 as fe32
use Rattle.bech32_gf.specs.laws.Fe32Laws as fe32_laws
use Rattle.bech32_gf_ext.specs.laws.Fe32Squares.{even}
use Rattle.bech32_gf_ext.specs.Fe1024.{low, high, mul}
use Rattle.bech32_gf_ext.specs.laws.Fe1024Laws.{same_parts}
use Rattle.bech32_gf_ext.proofs.Products.{pair_by_three}
use Rattle.bech32_gf_ext.proofs.fe1024.Fe1024Arithmetic.product_with.Goals as goal

pub returns : goal.returns
unfolding mul
returns c =
    let x = c.parts.ensures in
    let y = c.parts-2.ensures in
    let places =
    pair_by_three fe32_laws.is_field even (low c.args.self) (high c.args.self) (low c.args.other) (high c.args.other)
    c.mul-constant.result c.mul-square.result c.mul-whole.result
    (c.mul-constant.ensures ∙ (λ i. fe32.mul (x.low i) (y.low i)))
    (c.mul-square.ensures ∙ (λ i. fe32.mul (x.high i) (y.high i)))
    (c.mul-whole.ensures
    ∙ (λ i. fe32.mul (c.add.ensures i) (c.add-2.ensures i))
    ∙ (λ i. fe32.mul (fe32.add (x.low i) (x.high i)) (fe32.add (y.low i) (y.high i)))) in
    c.from_parts.ensures ∙ same_parts (c.add-3.ensures ∙ places.0) (c.add-4.ensures ∙ places.1)
