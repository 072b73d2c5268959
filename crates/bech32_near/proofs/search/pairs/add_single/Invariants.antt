use Rattle.std.specs.Prelude.{get_or}
use Rattle.std.proofs.Common.{◌≡◌, ◌≤◌, ◌<◌, ◌+◌, ◌*◌, ℕ, List, min}
use Rattle.bech32_gf.specs.Fe32 as fe32
use Rattle.bech32_gf.specs.laws.Fe32Laws.{is_field}
use Rattle.bech32_near.specs.search.Added.{IsTableFor}
use Rattle.bech32_near.specs.search.Nearest.{IsEarlier}
use Rattle.bech32_near.specs.search.Sketch.{entry_number, sketch}
use Rattle.bech32_near.specs.search.Steps.{AreAdded}
use Rattle.bech32_near.proofs.Coded.{IsCodedBelow}
use Rattle.bech32_near.proofs.Elements.{lowest, value_below}
use Rattle.bech32_near.proofs.search.pairs.add_single.Given as goal

abbrev pub invariant-loop-i : goal.invariant-loop-i
invariant-loop-i g l =
    let size : ℕ = min g.Ck.Checksum.CHECKSUM_LENGTH 12 in
    let start : ℕ = entry_number (sketch l.rows size l.corrector.residue) 0 0 in
    (columns : List ℕ) → l.limit ≤ l.corrector.window
    → IsTableFor g.Ck.Checksum.code g.Ck.Checksum.bound g.Ck.Checksum.CHECKSUM_LENGTH l.corrector l.rows columns l.entries
    → record {
      n : ℕ;
      next : l.next ≡ start + n;
      most : n ≤ l.limit * 32;
      passed : (k : ℕ) → k < l.i → start < get_or l.entries k 0 → get_or l.entries k 0 < l.next;
      added : AreAdded (IsEarlier fe32.ops fe32.value l.corrector.erasures)
          (IsCodedBelow is_field fe32.value lowest fe32.path value_below g.Ck.Checksum.code.generator l.corrector.residue l.corrector.erasures n)
          l.fn.found.items l.found.items;
    }
