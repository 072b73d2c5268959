use Rattle.std.proofs.Common.{◌≡◌}
use Rattle.bech32_gf.specs.Fe32 as fe32
use Rattle.bech32_poly.specs.Polynomial.{coefficient}
use Rattle.bech32_lookup.specs.Equations.{weighted}
use Rattle.bech32_lookup.proofs.erased.weighted_sum.Given as goal

abbrev pub invariant-loop-i : goal.invariant-loop-i
invariant-loop-i l = l.sum ≡ weighted fe32.ops (coefficient fe32.ops l.values) (coefficient fe32.ops l.factors) l.i
