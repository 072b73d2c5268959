use Rattle.std.specs.List.{AllByRecursion}
use Rattle.std.proofs.Common.{◌≡◌, ◌≤◌, ◌<◌, [], length, take}
use Rattle.bech32_bch.specs.Erasures.{with_erasures}
use Rattle.bech32_small.proofs.search.erasures_of.Given as goal

abbrev pub invariant-loop-location : goal.invariant-loop-location
invariant-loop-location l = record {
  size : length l.items ≡ 3;
  few : l.count ≤ 3;
  below : AllByRecursion (λ i. i < l.window) (take l.location-index l.given);
  so_far : take l.count l.items ≡ with_erasures [] (take l.location-index l.given);
}
