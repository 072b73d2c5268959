use Rattle.std.proofs.Common.{◌≡◌, ◌≤◌, drop, length, map}
use Rattle.bech32_gf.specs.Fe32 as fe32
use Rattle.bech32_gf.specs.Fe32.{elements_of}
use Rattle.codex32_steady.specs.shares.Shares.{combined}
use Rattle.codex32_steady.proofs.shares.derive.derive.Given as goal

abbrev pub invariant-loop-i : goal.invariant-loop-i
invariant-loop-i g l = record {
  within : l.i ≤ length l.weights;
  size : length l.target ≡ length l.fn.target;
  so_far : l.target ≡ combined fe32.ops (length l.fn.target) (drop l.i l.weights) (drop l.i (map (λ t. elements_of (g.T.IndexedText.characters_of t)) l.texts));
}

abbrev pub decreases-loop-i : goal.decreases-loop-i
decreases-loop-i g l = l.i
