use Rattle.std.proofs.Common.{◌≡◌, take, []}
use Rattle.bech32_poly.specs.Window.{shifted}
use Rattle.bech32_poly.proofs.lfsr.shifted_copy.Given as goal

abbrev pub invariant-loop : goal.invariant-loop
invariant-loop g l = l.copy ≡ shifted g.F.Arithmetic.ops l.counter []

abbrev pub invariant-loop-x : goal.invariant-loop-x
invariant-loop-x g l = l.copy ≡ shifted g.F.Arithmetic.ops l.shift (take l.x-index l.source)
