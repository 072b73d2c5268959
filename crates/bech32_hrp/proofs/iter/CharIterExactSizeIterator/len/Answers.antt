use Rattle.std.proofs.Common.{rules}
use Rattle.bech32_hrp.proofs.iter.CharIterExactSizeIterator.len.Goals as goal

pub returns : goal.returns
returns c = search rules
