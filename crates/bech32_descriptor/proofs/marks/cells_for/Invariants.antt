use Rattle.std.proofs.Common.{◌<◌, ◌≤◌, ◌^◌}
use Rattle.bech32_descriptor.proofs.marks.cells_for.Given as goal

abbrev pub invariant-loop-step : goal.invariant-loop-step
invariant-loop-step l = record { some : 0 < l.size; few : l.size ≤ 2 ^ 22 }
