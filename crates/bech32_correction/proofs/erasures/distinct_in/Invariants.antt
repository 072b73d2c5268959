use Rattle.std.proofs.Common.{◌≡◌, ◌≤◌, [], length, take}
use Rattle.bech32_bch.specs.Erasures.{with_erasures}
use Rattle.bech32_correction.proofs.erasures.distinct_in.Given as goal

abbrev pub invariant-loop-location : goal.invariant-loop-location
invariant-loop-location g l = record {
  so_far : l.distinct ≡ with_erasures [] (take l.location-index l.given);
  few : length l.distinct ≤ l.most;
}
