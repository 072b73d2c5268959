use Rattle.std.proofs.Common.{◌≡◌, ◌<◌, min}
use Rattle.bech32_gf.specs.Fe32 as fe32
use Rattle.bech32_near.specs.search.Added.{IsSketched}
use Rattle.bech32_near.specs.search.Nearest.{IsEarlier}
use Rattle.bech32_near.specs.search.Sketch.{sketch}
use Rattle.bech32_near.specs.search.Steps.{AreAdded, HasHighestBelow}
use Rattle.bech32_near.proofs.search.pairs.add_at.Given as goal

abbrev pub invariant-loop-value : goal.invariant-loop-value
invariant-loop-value g l =
    IsSketched g.Ck.Checksum.code g.Ck.Checksum.bound g.Ck.Checksum.CHECKSUM_LENGTH l.corrector l.table → l.location < l.corrector.window
    → l.whole ≡ sketch l.table.rows.now (min g.Ck.Checksum.CHECKSUM_LENGTH 12) l.corrector.residue
    → AreAdded (IsEarlier fe32.ops fe32.value l.corrector.erasures)
    (HasHighestBelow fe32.ops fe32.value g.Ck.Checksum.code.generator l.corrector.residue l.corrector.erasures l.location 1 l.value)
    l.fn.found.items l.found.items
