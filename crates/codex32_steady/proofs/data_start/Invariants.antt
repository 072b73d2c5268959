use Rattle.std.proofs.Common.{◌-◌, length}
use Rattle.codex32_steady.proofs.Places.{IsSeen}
use Rattle.codex32_steady.proofs.data_start.Given as goal

-- the last ones were looked at
abbrev pub invariant-loop-i : goal.invariant-loop-i
invariant-loop-i l = IsSeen l.bytes (length l.bytes - l.i) l.found l.start
