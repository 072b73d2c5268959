use Rattle.std.proofs.Common.{rules}
use Rattle.io_traits.proofs.WatchedByteSink.flush.Goals as goal

pub returns : goal.returns
returns g c = search rules
