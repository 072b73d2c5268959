use Rattle.std.proofs.Common.{rules}
use Rattle.bech32_hrp.proofs.Hrp.is_valid_on_signet.Goals as goal

pub returns : goal.returns
returns c = search rules
