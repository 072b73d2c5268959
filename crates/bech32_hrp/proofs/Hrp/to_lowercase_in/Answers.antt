use Rattle.std.proofs.Common.{rules}
use Rattle.bech32_hrp.proofs.Hrp.to_lowercase_in.Goals as goal

pub returns : goal.returns
returns g c = search rules
