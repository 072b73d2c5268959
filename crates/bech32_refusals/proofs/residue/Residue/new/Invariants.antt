use Rattle.std.proofs.Common.{◌≡◌, ◌≤◌, ◌<◌, ℕ, length}
use Rattle.bech32_gf.specs.Fe32.{ops, zero}
use Rattle.bech32_poly.specs.Polynomial.{coefficient}
use Rattle.bech32_checksum.specs.Packed.{digit_of}
use Rattle.bech32_refusals.proofs.residue.Residue.new.Given as goal

abbrev pub invariant-loop-i : goal.invariant-loop-i
invariant-loop-i g l = record {
  room : length l.digits ≡ 25;
  read : (n : ℕ) → n < l.i → coefficient ops l.digits n ≡ digit_of (g.R.PackedFe32.number l.packed) n;
  rest : (n : ℕ) → l.i ≤ n → coefficient ops l.digits n ≡ zero;
}
