use Rattle.std.proofs.Common.{◌≤◌, drop, length, map}
use Rattle.bech32_poly.specs.Distinct.{IsOnce}
use Rattle.codex32_steady.proofs.shares.distinct_indices.are_indices_distinct.Given as goal

-- the indices that were passed differ
abbrev pub invariant-loop-i : goal.invariant-loop-i
invariant-loop-i g l = record {
  within : l.i ≤ length l.texts;
  once : IsOnce (drop l.i (map g.T.IndexedText.index_of l.texts));
}

abbrev pub decreases-loop-i : goal.decreases-loop-i
decreases-loop-i g l = l.i
