use Rattle.std.proofs.Common.{◌≡◌, ◌≤◌, [], length, take}
use Rattle.bech32_bch.specs.Erasures.{with_erasures}
use Rattle.bech32_more_calls.proofs.confidential.nearest.are_few.Given as goal

abbrev pub invariant-loop-location : goal.invariant-loop-location
invariant-loop-location l = record {
  so_far : l.distinct ≡ with_erasures [] (take l.location-index l.given);
  few : length l.distinct ≤ l.most;
}
