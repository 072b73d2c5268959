use Rattle.std.proofs.Common.{◌≤◌, ◌+◌, List, ℕ, length, take, subst, arith}
use Rattle.std.proofs.lemmas.List.{take_all, take_more}
use Rattle.bech32_encode.specs.Buffers.{PutsBehind}
use Rattle.bech32_encode.proofs.TextPieces.{puts_then}
use Rattle.bech32_encode.proofs.groups.put_each.Goals as goal

pub loop-byte-preserved : goal.loop-byte-preserved
loop-byte-preserved c =
    let bytes = c.args.bytes.now in
    let i = c.loop-byte.byte-index in
    puts_then (take i bytes) _ (take (i + 1) bytes) _ _ _ _ _ _ (take_more bytes i 0 c.loop-byte-test.true) c.loop-byte.invariant c.put_byte-count.ensures

pub returns : goal.returns
returns c =
    let bytes = c.args.bytes.now in
    let all : length bytes ≤ c.loop-byte.byte-index = omega arith in
    subst (λ (l : List ℕ). PutsBehind l c.args.buffer.now c.args.count c.loop-byte.buffer c.loop-byte.count) (take_all c.loop-byte.byte-index bytes all) c.loop-byte.invariant
