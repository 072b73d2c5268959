use Rattle.std.proofs.Common.{◌∙◌, ap}
use Rattle.bech32_gf.specs.Fe32.{path, mul}
use Rattle.bech32_gf.specs.declared.gf32.Fe32.{Fe32}
use Rattle.bech32_gf.proofs.PlainProduct.{shifted-none, shifted-more, partial-none, partial-taken, partial-left, partial-all}
use Rattle.bech32_gf.proofs.gf32.plain.product.Goals as goal
use Rattle.bech32_gf.proofs.gf32.plain.product.Goals.{then-b-i-eq1, else-b-i-eq1}

pub loop-i-init : goal.loop-i-init
loop-i-init c =
    record { sum_so_far = partial-none c.args.a.value c.args.b.value; shifted_by_i = shifted-none c.args.a.value c.args.a.in_field }

pub loop-i-preserved : goal.loop-i-preserved
loop-i-preserved c = record {
  sum_so_far = elim c.if-b-i-eq1.branch [
    | then-b-i-eq1 w ↦
        let taken = partial-taken c.loop-i.i c.args.a.value c.args.b.value c.loop-i-test.true c.args.a.in_field c.args.b.in_field w.if-b-i-eq1.true in
        ap (λ (x : Fe32). x.value) (w.sum-is ∙ w.add_assign.ensures.after)
        ∙ rw (c.loop-i.invariant.sum_so_far, c.loop-i.invariant.shifted_by_i) taken
    | else-b-i-eq1 w ↦
        ap (λ (x : Fe32). x.value) w.sum-is
        ∙ c.loop-i.invariant.sum_so_far
        ∙ partial-left c.loop-i.i c.args.a.value c.args.b.value c.loop-i-test.true c.args.a.in_field c.args.b.in_field w.if-b-i-eq1.false
  ];
  shifted_by_i =
      ap (λ (x : Fe32). x.value) c.doubled-shifted.ensures
      ∙ rw c.loop-i.invariant.shifted_by_i (shifted-more c.args.a.value c.loop-i.i c.args.a.in_field c.loop-i-test.true);
}

pub returns : goal.returns
returns c =
    path _ (mul c.args.a c.args.b)
    (c.loop-i.invariant.sum_so_far ∙ partial-all c.loop-i.i c.args.a.value c.args.b.value c.loop-i-test.false c.loop-i.auto.i-end)
