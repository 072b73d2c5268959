use Rattle.std.proofs.Common.{◌≤◌, ◌+◌, ℕ}
use Rattle.std.specs.List.{AllByRecursion}
use Rattle.bech32_gf.specs.Fe32 as fe32
use Rattle.bech32_checksum.specs.Code.{IsResidueOf}
use Rattle.bech32_bch.proofs.Patterns.{values_from}
use Rattle.bech32_lookup.proofs.division.listed_engine.Given as goal

abbrev pub invariant-loop-location : goal.invariant-loop-location
invariant-loop-location g l = record {
  count : ℕ;
  above : AllByRecursion (λ p. p.0 ≤ l.location + count) l.listing;
  so_far : IsResidueOf g.Ck.MidstateRepr.PackedFe32.number g.Ck.Checksum.code l.engine (values_from fe32.ops l.listing l.location (count + 1));
}

abbrev pub decreases-loop-location : goal.decreases-loop-location
decreases-loop-location g l = l.location
