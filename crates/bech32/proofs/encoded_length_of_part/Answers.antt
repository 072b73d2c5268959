use Rattle.std.proofs.Common.{◌∙◌, arith}
use Rattle.bech32_encode.proofs.Encoding.{text_length-is}
use Rattle.bech32.proofs.encoded_length_of_part.Goals as goal

pub returns-then-length-CODE_LENGTH : goal.returns-then-length-CODE_LENGTH
returns-then-length-CODE_LENGTH g c =
    let k = g.Ck.Checksum in
    let size = g.met.Ck.Checksum.code_length_law in
    let long = text_length-is k.code k.CHECKSUM_LENGTH g.met.Ck.Checksum.degree_law c.args.part.now c.args.data.now in
    let same = c.text_length_of_part-length.ensures ∙ long in
    let bound = c.CODE_LENGTH.ensures in
    (omega arith, same, omega arith)

pub returns : goal.returns
returns g c =
    let k = g.Ck.Checksum in
    let size = g.met.Ck.Checksum.code_length_law in
    let long = text_length-is k.code k.CHECKSUM_LENGTH g.met.Ck.Checksum.degree_law c.args.part.now c.args.data.now in
    let same = c.text_length_of_part-length.ensures ∙ long in
    let bound = c.CODE_LENGTH.ensures in
    (same, omega arith)
