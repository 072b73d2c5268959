use Rattle.std.proofs.Common.{◌≤◌, drop, length, map}
use Rattle.bech32_poly.specs.Distinct.{IsNotAmong}
use Rattle.codex32_steady.proofs.shares.distinct_indices.is_free.Given as goal

-- it is not one of the indices that were passed
abbrev pub invariant-loop-i : goal.invariant-loop-i
invariant-loop-i g l = record {
  within : l.i ≤ length l.texts;
  free : IsNotAmong l.index (drop l.i (map g.T.IndexedText.index_of l.texts));
}

abbrev pub decreases-loop-i : goal.decreases-loop-i
decreases-loop-i g l = l.i
