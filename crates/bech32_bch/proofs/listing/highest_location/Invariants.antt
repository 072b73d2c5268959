use Rattle.std.proofs.Common.{◌≡◌, ◌≤◌, ◌⊎◌, take}
use Rattle.std.specs.List.{AllByRecursion}
use Rattle.bech32_poly.specs.Distinct.{IsAmong}
use Rattle.bech32_bch.specs.Pattern.{locations}
use Rattle.bech32_bch.proofs.listing.highest_location.Given as goal

abbrev pub invariant-loop-k : goal.invariant-loop-k
invariant-loop-k g l = record {
  bound : AllByRecursion (λ p. p.0 ≤ l.highest) (take l.k l.listing);
  attained : (l.highest ≡ 0) ⊎ IsAmong l.highest (locations (take l.k l.listing));
}
