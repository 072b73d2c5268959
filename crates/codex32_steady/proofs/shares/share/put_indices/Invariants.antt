use Rattle.std.proofs.Common.{◌≡◌, length, map, take}
use Rattle.codex32_steady.proofs.shares.share.put_indices.Given as goal

-- the first ones are written
abbrev pub invariant-loop-i : goal.invariant-loop-i
invariant-loop-i g l = record {
  size : length l.indices ≡ length l.texts;
  so_far : take l.i l.indices ≡ take l.i (map g.T.IndexedText.index_of l.texts);
}
