use Rattle.std.proofs.Common.{◌≡◌, ◌<◌, ◌+◌, ◌∙◌, ℕ, arith, below_more, get_or, get_or-set_other, get_or-set_same, length, length-set, set, subst, sym}
use Rattle.bech32_more_calls.specs.columns.Checked.{IsCheckedRow}
use Rattle.bech32_more_calls.specs.columns.Rows.{row_of}
use Rattle.bech32_more_calls.proofs.columns.check.put_numbers.Goals as goal

pub loop-i-preserved : goal.loop-i-preserved
loop-i-preserved c =
    let xs = c.loop-i.numbers in
    let i : ℕ = c.loop-i.i in
    let n : ℕ = c.check_row.result in
    let within : i < length xs = omega (arith, c.loop-i-test.true, c.loop-i.invariant.size) in
    record {
      size = length-set xs i n ∙ c.loop-i.invariant.size;
      so_far = below_more (λ (k : ℕ). IsCheckedRow c.args.checksum (row_of c.args.column.now (c.args.first + k)) (get_or (set xs i n) k 0)) i
          (λ k less. subst (λ (m : ℕ). IsCheckedRow c.args.checksum (row_of c.args.column.now (c.args.first + k)) m) (sym (get_or-set_other xs i k n 0 (λ q. omega (arith, q, less))))
          (c.loop-i.invariant.so_far k less))
          (subst (λ (m : ℕ). IsCheckedRow c.args.checksum (row_of c.args.column.now (c.args.first + i)) m) (sym (get_or-set_same xs i n 0 within)) c.check_row.ensures);
    }
