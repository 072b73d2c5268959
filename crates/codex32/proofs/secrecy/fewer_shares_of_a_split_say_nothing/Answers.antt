use Rattle.std.proofs.Common.{length}
use Rattle.codex32.proofs.SplitAccepted.{accepted-deal}
use Rattle.codex32.proofs.SplitRefusals.{can-split}
use Rattle.codex32.proofs.SplitSecrecy.{one-deal}
use Rattle.codex32.proofs.secrecy.fewer_shares_of_a_split_say_nothing.Goals as goal

pub returns-clause-one : goal.returns-clause-one
returns-clause-one c = λ t i secret other random count n room texts numbers fine split few size.
    one-deal t i secret other random count n room texts numbers (can-split t (length secret) count random room fine) split few size

pub returns-clause-accepted : goal.returns-clause-accepted
returns-clause-accepted c = λ t i secret other random count n room texts numbers fine split few size.
    let can = can-split t (length secret) count random room fine in
    accepted-deal t i secret other random count n room numbers texts can size (one-deal t i secret other random count n room texts numbers can split few size)
