use Rattle.std.proofs.Common.{◌≡◌, ◌<◌, ◌≤◌, ℕ, length}
use Rattle.bech32_gf.specs.Fe32 as fe32
use Rattle.bech32_poly.specs.Polynomial.{coefficient}
use Rattle.bech32_lookup.specs.Equations.{entry}
use Rattle.bech32_lookup.proofs.erased.eliminate.Given as goal

abbrev pub invariant-loop-i : goal.invariant-loop-i
invariant-loop-i l = record {
  room : length l.rows ≡ length l.fn.rows;
  size : length l.factors ≡ 25;
  added : (k place : ℕ) → k < l.i → place < l.size
      → entry l.rows k place ≡ fe32.add (entry l.fn.rows k place) (fe32.mul (coefficient fe32.ops l.factors k) (coefficient fe32.ops l.row.items place));
  factor : (k : ℕ) → k < l.i → coefficient fe32.ops l.factors k ≡ fe32.mul (entry l.fn.rows k l.pivot) (fe32.inv (coefficient fe32.ops l.row.items l.pivot));
  rest : (k place : ℕ) → l.i ≤ k → entry l.rows k place ≡ entry l.fn.rows k place;
}
