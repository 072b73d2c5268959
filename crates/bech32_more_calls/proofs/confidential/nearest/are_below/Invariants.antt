use Rattle.std.specs.List.{AllByRecursion}
use Rattle.std.proofs.Common.{◌<◌, take}
use Rattle.bech32_more_calls.proofs.confidential.nearest.are_below.Given as goal

abbrev pub invariant-loop-location : goal.invariant-loop-location
invariant-loop-location l = AllByRecursion (λ i. i < l.limit) (take l.location-index l.given)
