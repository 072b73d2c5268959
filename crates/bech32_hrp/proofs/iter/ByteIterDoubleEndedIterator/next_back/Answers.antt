use Rattle.std.proofs.Common.{rules}
use Rattle.bech32_hrp.proofs.iter.ByteIterDoubleEndedIterator.next_back.Goals as goal

pub returns : goal.returns
returns c = search rules
