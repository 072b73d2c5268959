use Rattle.std.proofs.Common.{arith}
use Rattle.bech32_suggest.proofs.Reading.{read_all, read_more}
use Rattle.bech32_suggest.proofs.typed.put_read.Goals as goal

pub loop-i-preserved : goal.loop-i-preserved
loop-i-preserved c =
    read_more c.args.typed.now c.args.buffer.now c.loop-i.buffer c.loop-i.i c.read_of.result c.loop-i-test.true (omega (arith, c.loop-i-test.true, c.requires)) c.loop-i.invariant c.read_of.ensures

pub returns-clause-front : goal.returns-clause-front
returns-clause-front c =
    read_all c.args.typed.now c.args.buffer.now c.loop-i.buffer c.loop-i.i (omega (arith, c.loop-i-test.false, c.loop-i.auto.i-end)) c.loop-i.invariant
