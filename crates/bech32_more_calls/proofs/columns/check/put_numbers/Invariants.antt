use Rattle.std.proofs.Common.{◌≡◌, ◌+◌, ◌<◌, ℕ, get_or, length}
use Rattle.bech32_more_calls.specs.columns.Checked.{IsCheckedRow}
use Rattle.bech32_more_calls.specs.columns.Rows.{row_of}
use Rattle.bech32_more_calls.proofs.columns.check.put_numbers.Given as goal

-- the numbers of the first rows are put
abbrev pub invariant-loop-i : goal.invariant-loop-i
invariant-loop-i l = record {
  size : length l.numbers ≡ length l.fn.numbers;
  so_far : (k : ℕ) → k < l.i → IsCheckedRow l.checksum (row_of l.column (l.first + k)) (get_or l.numbers k 0);
}
