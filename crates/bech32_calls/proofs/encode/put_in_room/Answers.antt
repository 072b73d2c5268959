use Rattle.std.proofs.Common.{◌++◌, arith, option_to_list}
use Rattle.bech32_bits.specs.Bits.{to_fes}
use Rattle.bech32_encode.proofs.TextPieces.{put_whole}
use Rattle.bech32_checksum.proofs.Uniqueness.{length-encoded}
use Rattle.bech32_calls.proofs.encode.put_in_room.Goals as goal

pub returns : goal.returns
returns g c =
    let code = g.Ck.Checksum.code in
    let part = c.args.part.now in
    let elements = option_to_list c.args.version ++ to_fes c.args.bytes.now in
    let (written, is, put) = c.put_text_of_part.ensures in
    let size = length-encoded code part elements written is in
    let room = c.requires in
    (written, is, put_whole written c.args.text.now c.put_text_of_part.new.buffer c.put_text_of_part.result put (omega arith))
