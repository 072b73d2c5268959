use Rattle.std.proofs.Common.{◌≡◌}
use Rattle.bech32_gf.specs.Fe32 as fe32
use Rattle.bech32_poly.specs.Polynomial.{coefficient}
use Rattle.bech32_near.specs.search.Sketch.{packed_by}
use Rattle.bech32_near.proofs.search.terms.packed.Given as goal

abbrev pub invariant-loop-i : goal.invariant-loop-i
invariant-loop-i l = l.number ≡ packed_by l.size (λ n. (coefficient fe32.ops l.list n).value) l.i
