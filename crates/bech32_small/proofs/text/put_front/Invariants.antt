use Rattle.std.proofs.Common.{take}
use Rattle.bech32_encode.specs.Buffers.{PutsBehind}
use Rattle.bech32_hrp.specs.Hrp.{lowered}
use Rattle.bech32_small.proofs.text.put_front.Given as goal

abbrev pub invariant-loop-b : goal.invariant-loop-b
invariant-loop-b l = PutsBehind (lowered (take l.b-index l.part)) l.initial.buffer 0 l.buffer l.count
