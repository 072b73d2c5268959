use Rattle.std.proofs.Common.{arith, ap, ◌∙◌}
use Rattle.bech32_bch.proofs.Loops.{gap_more}
use Rattle.bech32_bch.proofs.terms.distances.Goals as goal

pub loop-i-preserved : goal.loop-i-preserved
loop-i-preserved g c =
    let o = g.K.Arithmetic.ops in
    record {
      within = omega arith;
      so_far = gap_more o c.args.here c.index-others-i.result c.loop-i.product c.times-product.result c.args.others.now c.loop-i.i (omega arith) c.loop-i.invariant.within c.index-others-i.is c.loop-i.invariant.so_far
          (c.times-product.ensures ∙ ap (λ u. o.mul u c.loop-i.product) (c.plus.ensures ∙ ap (o.add c.args.here) c.negated.ensures));
    }
