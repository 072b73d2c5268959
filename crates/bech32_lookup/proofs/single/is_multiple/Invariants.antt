use Rattle.std.proofs.Common.{◌≡◌, ℕ, ◌<◌}
use Rattle.bech32_gf.specs.Fe32 as fe32
use Rattle.bech32_poly.specs.Polynomial.{coefficient}
use Rattle.bech32_checksum.specs.Packed.{digit_of}
use Rattle.bech32_lookup.proofs.single.is_multiple.Given as goal

abbrev pub invariant-loop-place : goal.invariant-loop-place
invariant-loop-place g l =
    (n : ℕ) → n < l.place → fe32.mul l.factor (digit_of (g.R.PackedFe32.number l.row) n) ≡ coefficient fe32.ops l.list n
