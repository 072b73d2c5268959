use Rattle.std.proofs.Common.{◌*◌, ◌+◌, ◌≤◌, ◌<◌, length}
use Rattle.bech32_gf.specs.Fe32 as fe32
use Rattle.bech32_near.specs.search.Nearest.{IsEarlier}
use Rattle.bech32_near.specs.search.Steps.{AreAdded, HasHighestBelow, IsGathered}
use Rattle.bech32_near.proofs.search.gathering.+gather.Given as goal

abbrev pub decreases-gather : goal.decreases-gather
decreases-gather g l = 3 * l.few.errors

abbrev pub decreases-gather_at : goal.decreases-gather_at
decreases-gather_at g l = 3 * l.others + 2

abbrev pub decreases-gather_with : goal.decreases-gather_with
decreases-gather_with g l = 3 * l.others + 1

abbrev pub invariant-gather-loop-location : goal.invariant-gather-loop-location
invariant-gather-loop-location g l =
    length l.corrector.erasures ≤ g.Ck.Checksum.bound → l.fn.few.limit ≤ l.corrector.window
    → AreAdded (IsEarlier fe32.ops fe32.value l.corrector.erasures)
    (IsGathered fe32.ops g.Ck.Checksum.code.generator l.corrector.residue l.corrector.erasures l.location l.fn.few.errors)
    l.fn.found.items l.found.items

abbrev pub invariant-gather_at-loop-value : goal.invariant-gather_at-loop-value
invariant-gather_at-loop-value g l =
    length l.corrector.erasures ≤ g.Ck.Checksum.bound → l.location < l.corrector.window
    → AreAdded (IsEarlier fe32.ops fe32.value l.corrector.erasures)
    (HasHighestBelow fe32.ops fe32.value g.Ck.Checksum.code.generator l.corrector.residue l.corrector.erasures l.location l.others l.value)
    l.fn.found.items l.found.items
