use Rattle.std.proofs.Common.{◌≡◌, suc}
use Rattle.bech32_gf.specs.Fe32 as fe32
use Rattle.bech32_poly.specs.Polynomial.{coefficient}
use Rattle.bech32_lookup.specs.Equations.{placed}
use Rattle.bech32_lookup.proofs.erased.listing_of.Given as goal

abbrev pub invariant-loop-i : goal.invariant-loop-i
invariant-loop-i g l = l.listing ≡ placed l.locations (λ k. coefficient fe32.ops l.values (suc k)) l.i
