use Rattle.bech32_encode.proofs.WholeGroups.{first_five-is}
use Rattle.bech32_encode.proofs.groups.first_five.Goals as goal

pub returns : goal.returns
returns c = first_five-is c.args.bytes.now c.requires
