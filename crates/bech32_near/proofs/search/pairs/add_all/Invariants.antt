use Rattle.std.proofs.Common.{◌≤◌}
use Rattle.bech32_gf.specs.Fe32 as fe32
use Rattle.bech32_near.specs.search.Added.{IsSketched}
use Rattle.bech32_near.specs.search.Nearest.{IsEarlier}
use Rattle.bech32_near.specs.search.Steps.{AreAdded, IsGathered}
use Rattle.bech32_near.proofs.search.pairs.add_all.Given as goal

abbrev pub invariant-loop-location : goal.invariant-loop-location
invariant-loop-location g l =
    IsSketched g.Ck.Checksum.code g.Ck.Checksum.bound g.Ck.Checksum.CHECKSUM_LENGTH l.corrector l.table → l.limit ≤ l.corrector.window
    → AreAdded (IsEarlier fe32.ops fe32.value l.corrector.erasures)
    (IsGathered fe32.ops g.Ck.Checksum.code.generator l.corrector.residue l.corrector.erasures l.location 2)
    l.fn.found.items l.found.items
