use Rattle.std.specs.Prelude.{bit_xor}
use Rattle.std.proofs.Common.{◌≡◌, ◌<◌, ℕ, get_or, length}
use Rattle.bech32_descriptor.specs.Marks.{IsMarked, KeepsMarks}
use Rattle.bech32_descriptor.proofs.marks.mark_sums.Given as goal

abbrev pub invariant-loop-other : goal.invariant-loop-other
invariant-loop-other l = record {
  size : length l.cells ≡ length l.fn.cells;
  alone : IsMarked l.cells l.word;
  sums : (x : ℕ) → x < l.other-index → IsMarked l.cells (bit_xor l.word (get_or l.row x 0));
  kept : KeepsMarks l.fn.cells l.cells;
}
