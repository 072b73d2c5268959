use Rattle.bech32_poly.specs.Polynomial.{coefficient}
use Rattle.bech32_poly.proofs.Synthesis.{State}
use Rattle.bech32_poly.proofs.lfsr.shortest_register.Given as goal

abbrev pub invariant-loop : goal.invariant-loop
invariant-loop g l = State g.F.Arithmetic.ops (coefficient g.F.Arithmetic.ops l.items) l.counter l.length l.right l.register l.old l.old_miss
