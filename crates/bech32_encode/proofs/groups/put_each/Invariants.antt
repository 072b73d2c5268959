use Rattle.std.proofs.Common.{take}
use Rattle.bech32_encode.specs.Buffers.{PutsBehind}
use Rattle.bech32_encode.proofs.groups.put_each.Given as goal

abbrev pub invariant-loop-byte : goal.invariant-loop-byte
invariant-loop-byte l = PutsBehind (take l.byte-index l.bytes) l.initial.buffer l.initial.count l.buffer l.count
