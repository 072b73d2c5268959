use Rattle.std.proofs.Common.{◌≤◌}
use Rattle.bech32_more_calls.proofs.Rowed.{AddressesSoFar}
use Rattle.bech32_more_calls.proofs.columns.decode.put_rows.Given as goal

-- the first rows are put, and their programs have room
abbrev pub invariant-loop-i : goal.invariant-loop-i
invariant-loop-i l = record {
  so_far : AddressesSoFar l.rows.column l.rows.first l.rows.hrp.now l.fn.numbers l.numbers l.fn.versions l.versions
      l.fn.hrp_lengths l.hrp_lengths l.fn.offsets l.offsets l.fn.programs l.programs l.i l.end;
  within : l.end ≤ l.room;
}
