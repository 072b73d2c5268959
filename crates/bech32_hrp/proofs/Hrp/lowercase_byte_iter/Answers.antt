use Rattle.std.proofs.Common.{rules}
use Rattle.bech32_hrp.proofs.Hrp.lowercase_byte_iter.Goals as goal

pub returns : goal.returns
returns c = search rules
