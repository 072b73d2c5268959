use Rattle.std.proofs.Common.{◌≡◌, take, map}
use Rattle.bech32_poly.specs.RootSearch.{multiplied_each}
use Rattle.codex32_steady.specs.shares.Points.{factor_of}
use Rattle.codex32_steady.proofs.shares.weights.rescale.Given as goal

abbrev pub invariant-loop-i : goal.invariant-loop-i
invariant-loop-i g l = l.weights ≡ multiplied_each g.F.Arithmetic.ops l.fn.weights (take l.i (map (factor_of g.F.Arithmetic.ops l.x l.new) l.indices))
