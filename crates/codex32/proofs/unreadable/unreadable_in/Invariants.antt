use Rattle.std.proofs.Common.{◌≡◌, ◌+◌, ◌++◌, drop, length}
use Rattle.codex32.specs.Damaged.{unreadable}
use Rattle.codex32.proofs.unreadable.unreadable_in.Given as goal

-- the locations among the characters that were passed
abbrev pub invariant-loop-c : goal.invariant-loop-c
invariant-loop-c g l = record {
  place : l.behind + l.c-index ≡ length l.data_part;
  so_far : l.places.items ++ unreadable (drop l.c-index l.data_part) ≡ unreadable l.data_part;
}
