use Rattle.std.proofs.Common.{◌≤◌, ◌+◌, [], ◌∷◌, length, take, ap, sym, arith}
use Rattle.std.proofs.lemmas.List.{take_all}
use Rattle.bech32_encode.specs.TextFrom.{text_front}
use Rattle.bech32_hrp.specs.Hrp.{lowered}
use Rattle.bech32_encode.proofs.TextPieces.{puts_then, lowered_more}
use Rattle.bech32_small.proofs.text.put_front.Goals as goal

pub loop-b-preserved : goal.loop-b-preserved
loop-b-preserved c =
    let bytes = c.args.part.now in
    let i = c.loop-b.b-index in
    puts_then (lowered (take i bytes)) (c.to_ascii_lowercase.result ∷ []) (lowered (take (i + 1) bytes)) _ _ _ _ _ _
    (lowered_more bytes i c.to_ascii_lowercase.result c.loop-b-test.true c.to_ascii_lowercase.ensures.value)
    c.loop-b.invariant c.put_byte-count.ensures

pub returns : goal.returns
returns c =
    let bytes = c.args.part.now in
    let i = c.loop-b.b-index in
    let all : length bytes ≤ i = omega arith in
    puts_then (lowered (take i bytes)) (49 ∷ []) _ _ _ _ _ _ _
    (ap text_front (sym (take_all i bytes all)))
    c.loop-b.invariant c.put_byte.ensures
