use Rattle.std.proofs.Common.{sym, ◌∙◌, ◌-◌, arith}
use Rattle.bech32_decode.proofs.DataEnds.{is_data-block}
use Rattle.bech32_decode.proofs.characters.blocks_start.Goals as goal

pub loop-start-preserved : goal.loop-start-preserved
loop-start-preserved c =
    let (inside, data_part) = c.loop-start.invariant in
    (omega arith, is_data-block c.args.bytes.now (c.loop-start.start - 16) c.loop-start.start (omega arith) (sym c.is_data_block.ensures ∙ c.if-is_data_block.true) data_part)
