use Rattle.std.proofs.Common.{arith}
use Rattle.bech32_hrp.specs.HrpBytes.{hrp_bytes}
use Rattle.bech32_encode.proofs.Encoding.{text_length-is}
use Rattle.bech32.proofs.encode_in.Goals as goal

pub encode_text-requires : goal.encode_text-requires
encode_text-requires g c =
    let k = g.Ck.Checksum in
    let long = text_length-is k.code k.CHECKSUM_LENGTH g.met.Ck.Checksum.degree_law (hrp_bytes c.args.hrp) c.args.data.now in
    let size = c.in_ok-size.ensures.0 in
    omega arith
