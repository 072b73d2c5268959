use Rattle.std.proofs.Common.{◌≡◌, ◌≤◌, ◌<◌, ℕ, length}
use Rattle.bech32_gf.specs.Fe32 as fe32
use Rattle.bech32_poly.specs.Polynomial.{coefficient}
use Rattle.bech32_checksum.specs.Packed.{digit_of}
use Rattle.bech32_lookup.proofs.division.residue_after_removing.Given as goal

abbrev pub invariant-loop-place : goal.invariant-loop-place
invariant-loop-place g l = record {
  room : length l.left ≡ 25;
  read : (n : ℕ) → n < l.place → coefficient fe32.ops l.left n ≡ fe32.add (coefficient fe32.ops l.residue n) (digit_of (g.Ck.MidstateRepr.PackedFe32.number l.row) n);
  rest : (n : ℕ) → l.place ≤ n → coefficient fe32.ops l.left n ≡ fe32.zero;
}
