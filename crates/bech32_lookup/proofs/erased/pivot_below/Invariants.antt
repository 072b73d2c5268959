use Rattle.std.proofs.Common.{◌≡◌, ◌<◌, ℕ}
use Rattle.bech32_gf.specs.Fe32 as fe32
use Rattle.bech32_poly.specs.Polynomial.{coefficient}
use Rattle.bech32_lookup.proofs.erased.pivot_below.Given as goal

abbrev pub invariant-loop-place : goal.invariant-loop-place
invariant-loop-place l = (n : ℕ) → n < l.place → coefficient fe32.ops l.list n ≡ fe32.zero
