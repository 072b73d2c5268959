use Rattle.std.specs.Prelude.{bit_xor}
use Rattle.std.proofs.Common.{◌≡◌, ◌<◌, ◌+◌, ◌*◌, ℕ, get_or, length}
use Rattle.bech32_descriptor.specs.Marks.{IsMarked, KeepsMarks}
use Rattle.bech32_descriptor.proofs.places.mark_place.Given as goal

abbrev pub invariant-loop-x : goal.invariant-loop-x
invariant-loop-x l = record {
  size : length l.cells ≡ length l.fn.cells;
  alone : (x : ℕ) → x < l.x → IsMarked l.cells (get_or l.rows (32 * l.symbol + x) 0);
  sums : (x y : ℕ) → x < l.x → y < 32
      → IsMarked l.cells (bit_xor (get_or l.rows (32 * l.symbol + x) 0) (get_or l.rows (32 * l.group + y) 0));
  kept : KeepsMarks l.fn.cells l.cells;
}
