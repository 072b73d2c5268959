use Rattle.std.proofs.Common.{◌≡◌, take, length}
use Rattle.codex32_steady.specs.shares.Points.{AreWeights}
use Rattle.codex32_steady.proofs.shares.weights.weights.Given as goal

abbrev pub invariant-loop-i : goal.invariant-loop-i
invariant-loop-i g l = record {
  size : length l.weights ≡ length l.indices;
  so_far : AreWeights g.F.Arithmetic.ops (take l.i l.indices) l.x (take l.i l.weights);
}
