use Rattle.std.proofs.Common.{◌≡◌, take}
use Rattle.codex32.specs.Damaged.{read_data}
use Rattle.codex32.proofs.unreadable.read_in.Given as goal

-- the first ones are read
abbrev pub invariant-loop-c : goal.invariant-loop-c
invariant-loop-c g l = l.read.items ≡ read_data (take l.c-index l.damaged)
