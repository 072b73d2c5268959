use Rattle.std.proofs.Common.{◌≡◌, ◌<◌, ℕ, length}
use Rattle.bech32_gf.specs.Fe32 as fe32
use Rattle.bech32_poly.specs.Polynomial.{coefficient}
use Rattle.bech32_lookup.proofs.erased.first_of.Given as goal

abbrev pub invariant-loop-place : goal.invariant-loop-place
invariant-loop-place l = record {
  room : length l.items ≡ 25;
  read : (n : ℕ) → n < l.place → coefficient fe32.ops l.items n ≡ coefficient fe32.ops l.list n;
}
