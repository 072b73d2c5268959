use Rattle.std.proofs.Common.{rules}
use Rattle.io_traits.proofs.WatchedFmtSink.failed.Goals as goal

pub returns : goal.returns
returns g c = search rules
