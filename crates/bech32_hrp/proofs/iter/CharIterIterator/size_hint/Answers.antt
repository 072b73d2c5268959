use Rattle.std.proofs.Common.{rules}
use Rattle.bech32_hrp.proofs.iter.CharIterIterator.size_hint.Goals as goal

pub returns : goal.returns
returns c = search rules
