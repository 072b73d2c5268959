use Rattle.std.proofs.Common.{rules}
use Rattle.bech32_hrp.proofs.Hrp.as_bytes.Goals as goal

pub returns : goal.returns
returns c = search rules
