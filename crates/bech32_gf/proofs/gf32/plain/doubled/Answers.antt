use Rattle.std.proofs.Common.{◌∙◌, lit<}
use Rattle.bech32_gf.specs.Fe32.{path, mul, generator}
use Rattle.bech32_gf.specs.laws.Gf32Laws.{product-lt}
use Rattle.bech32_gf.proofs.PlainProduct.{product-two_low, product-two_high}
use Rattle.bech32_gf.proofs.gf32.plain.doubled.Goals as goal
use Rattle.bech32_gf.proofs.gf32.plain.doubled.Goals.{then-twice-lt32, else-twice-lt32}

pub invariant_of-result : goal.invariant_of-result
invariant_of-result c = record {
  in_field = elim c.if-twice-lt32.branch [
    | then-twice-lt32 w ↦ rw w.result-is w.if-twice-lt32.true
    | else-twice-lt32 w ↦
        rw (w.result-is ∙ product-two_high c.args.a.value c.args.a.in_field w.if-twice-lt32.false)
        (product-lt c.args.a.value 2 c.args.a.in_field (lit< tt))
  ];
}

pub returns : goal.returns
returns c = path _ (mul c.args.a generator) (elim c.if-twice-lt32.branch [
  | then-twice-lt32 w ↦ w.result-is ∙ product-two_low c.args.a.value w.if-twice-lt32.true
  | else-twice-lt32 w ↦ w.result-is ∙ product-two_high c.args.a.value c.args.a.in_field w.if-twice-lt32.false
])
