use Rattle.std.proofs.Common.{arith}
use Rattle.bech32_bits.proofs.PlainCuts.{cut_more, eights_from, eights_end}
use Rattle.bech32_bits.proofs.plain.eights.Goals as goal

pub loop-at-preserved : goal.loop-at-preserved
loop-at-preserved c = record {
  within = omega arith;
  cut = cut_more _ _ _ _ _ _ c.loop-at.invariant.cut (eights_from c.loop-at.at c.args.all.now _ (omega arith) c.requires c.eight_at.ensures) c.in_ok-push.ensures.items;
}

pub returns : goal.returns
returns c = eights_end c.loop-at.at c.args.all.now _ c.loop-at-test.false c.loop-at.invariant.cut
