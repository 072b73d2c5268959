use Rattle.std.proofs.Common.{arith, inl, inr}
use Rattle.bech32_near.proofs.Highest.{highest_next}
use Rattle.bech32_near.proofs.search.gathering.highest_of.Goals as goal
use Rattle.bech32_near.proofs.search.gathering.highest_of.Goals.{then-erasure-highest, else-erasure-highest}

pub loop-erasure-preserved : goal.loop-erasure-preserved
loop-erasure-preserved c = elim c.if-erasure-highest.branch [
  | then-erasure-highest w ↦ highest_next c.args.location c.args.erasures.now c.loop-erasure.erasure-index c.loop-erasure.highest c.if-erasure-highest.highest c.loop-erasure-test.true
      (omega (arith, w.highest-is, w.if-erasure-highest.true)) (omega (arith, w.highest-is)) (inr w.highest-is) c.loop-erasure.invariant
  | else-erasure-highest w ↦ highest_next c.args.location c.args.erasures.now c.loop-erasure.erasure-index c.loop-erasure.highest c.if-erasure-highest.highest c.loop-erasure-test.true
      (omega (arith, w.highest-is)) (omega (arith, w.highest-is, w.if-erasure-highest.false)) (inl w.highest-is) c.loop-erasure.invariant
]
