use Rattle.bech32_bits.proofs.PlainCuts.{bit_more}
use Rattle.bech32_bits.proofs.plain.push_bits.Goals as goal

pub loop-place-preserved : goal.loop-place-preserved
loop-place-preserved c = bit_more _ _ _ c.args.number c.loop-place.place c.loop-place-test.true c.loop-place.invariant c.in_ok-push.ensures.items
