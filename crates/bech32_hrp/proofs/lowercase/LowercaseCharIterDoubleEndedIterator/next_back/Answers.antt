use Rattle.std.proofs.Common.{rules}
use Rattle.bech32_hrp.proofs.lowercase.LowercaseCharIterDoubleEndedIterator.next_back.Goals as goal

pub returns : goal.returns
returns c = search rules
