use Rattle.codex32_steady.proofs.Places.{IsRead}
use Rattle.codex32_steady.proofs.graphic_count.Given as goal

-- the first ones were looked at
abbrev pub invariant-loop-b : goal.invariant-loop-b
invariant-loop-b l = IsRead l.bytes l.b-index l.graphic l.count
