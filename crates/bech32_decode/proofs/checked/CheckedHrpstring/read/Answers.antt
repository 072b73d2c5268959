use Rattle.std.proofs.Common.{rules}
use Rattle.bech32_decode.proofs.checked.CheckedHrpstring.read.Goals as goal

pub returns : goal.returns
returns g c = search rules
