use Rattle.std.proofs.Common.{◌∙◌}
use Rattle.bech32_gf.specs.Fe32 as fe32
use Rattle.bech32_gf.specs.laws.Fe32Laws as fe32_laws
use Rattle.bech32_gf_ext.specs.laws.Fe32Squares.{even}
use Rattle.bech32_gf_ext.specs.Fe32768.{low, middle, high, mul}
use Rattle.bech32_gf_ext.specs.laws.Fe32768Laws.{same_parts}
use Rattle.bech32_gf_ext.proofs.Products.{triple_by_six}
use Rattle.bech32_gf_ext.proofs.fe32768.Fe32768Arithmetic.product_with.Goals as goal

pub returns : goal.returns
unfolding mul
returns c =
    let x = c.parts.ensures in
    let y = c.parts-2.ensures in
    let places =
    triple_by_six fe32_laws.is_field even
    (low c.args.self) (middle c.args.self) (high c.args.self) (low c.args.other) (middle c.args.other) (high c.args.other)
    c.mul-constant.result c.mul-square.result c.mul-fourth.result c.mul-low_two.result c.mul-ends.result c.mul-high_two.result
    (c.mul-constant.ensures ∙ (λ i. fe32.mul (x.low i) (y.low i)))
    (c.mul-square.ensures ∙ (λ i. fe32.mul (x.middle i) (y.middle i)))
    (c.mul-fourth.ensures ∙ (λ i. fe32.mul (x.high i) (y.high i)))
    (c.mul-low_two.ensures
    ∙ (λ i. fe32.mul (c.add.ensures i) (c.add-2.ensures i))
    ∙ (λ i. fe32.mul (fe32.add (x.low i) (x.middle i)) (fe32.add (y.low i) (y.middle i))))
    (c.mul-ends.ensures
    ∙ (λ i. fe32.mul (c.add-3.ensures i) (c.add-4.ensures i))
    ∙ (λ i. fe32.mul (fe32.add (x.low i) (x.high i)) (fe32.add (y.low i) (y.high i))))
    (c.mul-high_two.ensures
    ∙ (λ i. fe32.mul (c.add-5.ensures i) (c.add-6.ensures i))
    ∙ (λ i. fe32.mul (fe32.add (x.middle i) (x.high i)) (fe32.add (y.middle i) (y.high i)))) in
    c.from_parts.ensures
    ∙ same_parts
    (c.add-first.ensures ∙ (λ i. fe32.add ((c.add-8.ensures ∙ (λ j. fe32.add (c.add-7.ensures j) c.mul-fourth.result)) i) c.mul-high_two.result) ∙ places.0)
    (c.add-second.ensures ∙ (λ i. fe32.add (c.add-9.ensures i) c.mul-high_two.result) ∙ places.1)
    (c.add-third.ensures ∙ (λ i. fe32.add (c.add-10.ensures i) c.mul-ends.result) ∙ places.2)
