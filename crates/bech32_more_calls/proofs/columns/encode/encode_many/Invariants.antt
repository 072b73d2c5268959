use Rattle.std.proofs.Common.{◌≤◌}
use Rattle.bech32_more_calls.proofs.Rowed.{TextsSoFar}
use Rattle.bech32_more_calls.proofs.columns.encode.encode_many.Given as goal

-- the first rows are put, and their texts have room
abbrev pub invariant-loop-i : goal.invariant-loop-i
invariant-loop-i l = record {
  so_far : TextsSoFar l.rows.column l.rows.first l.rows.hrp.now l.rows.versions.now l.fn.numbers l.numbers l.fn.offsets l.offsets
      l.fn.texts l.texts l.i l.end;
  within : l.end ≤ l.room;
}
