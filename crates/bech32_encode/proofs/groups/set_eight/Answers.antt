use Rattle.std.proofs.Common.{◌≡◌, length, rules}
use Rattle.bech32_encode.proofs.WholeGroups.{eight_set}
use Rattle.bech32_encode.proofs.groups.set_eight.Goals as goal

pub returns : goal.returns
returns c =
    let long : length c.args.bytes ≡ 8 = search rules in
    eight_set c.args.bytes c.args.buffer.now c.args.at long c.requires
