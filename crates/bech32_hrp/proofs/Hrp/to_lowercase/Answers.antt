use Rattle.std.proofs.Common.{rules}
use Rattle.bech32_hrp.proofs.Hrp.to_lowercase.Goals as goal

pub returns : goal.returns
returns c = search rules
