use Rattle.std.proofs.Common.{◌≡◌, ◌<◌, ◌≤◌, ℕ, suc, length}
use Rattle.bech32_gf.specs.Fe32 as fe32
use Rattle.bech32_poly.specs.Polynomial.{coefficient}
use Rattle.bech32_lookup.proofs.erased.behind_first.Given as goal

abbrev pub invariant-loop-i : goal.invariant-loop-i
invariant-loop-i l = record {
  room : length l.values ≡ 26;
  read : (n : ℕ) → n < l.i → coefficient fe32.ops l.values (suc n) ≡ coefficient fe32.ops l.found n;
  rest : (n : ℕ) → l.i ≤ n → coefficient fe32.ops l.values (suc n) ≡ fe32.zero;
}
