use Rattle.std.proofs.Common.{◌≡◌, take, length}
use Rattle.bech32_poly.specs.Division.{zeros}
use Rattle.codex32_steady.proofs.shares.derive.clear.Given as goal

abbrev pub invariant-loop-i : goal.invariant-loop-i
invariant-loop-i g l = record {
  size : length l.target ≡ length l.fn.target;
  so_far : take l.i l.target ≡ zeros g.F.Arithmetic.ops l.i;
}
