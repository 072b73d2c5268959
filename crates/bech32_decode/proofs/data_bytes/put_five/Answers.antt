use Rattle.std.proofs.Common.{◌≡◌, length, rules}
use Rattle.bech32_decode.proofs.DataBytes.{five_set}
use Rattle.bech32_decode.proofs.data_bytes.put_five.Goals as goal

pub returns : goal.returns
returns c =
    let long : length c.args.bytes ≡ 5 = search rules in
    five_set c.args.bytes c.args.buffer.now c.args.at long c.requires
