use Rattle.std.proofs.Common.{sym, ◌∙◌, arith}
use Rattle.bech32_decode.proofs.DataEnds.{is_data-byte}
use Rattle.bech32_decode.proofs.parts.CharacterTests.data_start.Goals as goal

pub loop-start-preserved : goal.loop-start-preserved
loop-start-preserved g c =
    let (inside, data_part) = c.loop-start.invariant in
    (omega arith, is_data-byte c.args.bytes.now c.loop-start.start c.loop-start-test.true inside (sym c.is_data_byte.ensures ∙ c.if-is_data_byte.true) data_part)
