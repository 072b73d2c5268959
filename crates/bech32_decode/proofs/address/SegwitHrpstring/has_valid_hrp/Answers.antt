use Rattle.std.proofs.Common.{rules}
use Rattle.bech32_decode.proofs.address.SegwitHrpstring.has_valid_hrp.Goals as goal

pub returns : goal.returns
returns c = search rules
