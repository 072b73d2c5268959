use Rattle.std.proofs.Common.{arith}
use Rattle.bech32_bch.proofs.Loops.{knock_more}
use Rattle.bech32_bch.proofs.terms.knock_all.Goals as goal

pub loop-i-preserved : goal.loop-i-preserved
loop-i-preserved g c = record {
  within = omega arith;
  so_far = knock_more g.K.Arithmetic.ops c.index-locators-i.result c.args.locators.now c.loop-i.i c.args.items.now c.loop-i.items c.knock_out.new.items (omega arith) c.loop-i.invariant.within
      c.index-locators-i.is c.knock_out.ensures.size c.knock_out.ensures.knocked c.loop-i.invariant.so_far;
}
