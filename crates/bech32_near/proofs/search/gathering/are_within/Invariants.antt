use Rattle.std.specs.List.{AllByRecursion}
use Rattle.std.proofs.Common.{◌<◌, take}
use Rattle.bech32_near.proofs.search.gathering.are_within.Given as goal

abbrev pub invariant-loop-error : goal.invariant-loop-error
invariant-loop-error l = AllByRecursion (λ q. q.0 < l.few.limit) (take l.error-index l.errors)
