use Rattle.std.proofs.Common.{◌≡◌, ◌++◌, map, take}
use Rattle.bech32_near.specs.search.Steps.{raised}
use Rattle.bech32_near.proofs.search.gathering.push_raised.Given as goal

abbrev pub invariant-loop-listing : goal.invariant-loop-listing
invariant-loop-listing g l = l.found.items ≡ l.fn.found.items ++ map (raised l.erased l.error) (take l.listing-index l.listings.items)
