use Rattle.std.proofs.Common.{arith}
use Rattle.bech32_bits.proofs.PlainCuts.{cut_more, fives_from}
use Rattle.bech32_bits.proofs.plain.fives.Goals as goal

pub loop-at-preserved : goal.loop-at-preserved
loop-at-preserved c = record {
  within = omega arith;
  whole = omega arith;
  cut = cut_more _ _ _ _ _ _ c.loop-at.invariant.cut (fives_from c.loop-at.at c.args.all.now _ (omega arith) c.five_at.ensures) c.in_ok-push.ensures.items;
}
