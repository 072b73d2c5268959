use Rattle.std.specs.Prelude.{◌==◌, slice_index}
use Rattle.std.specs.List.{list_all}
use Rattle.std.proofs.Common.{◌≡◌, take}
use Rattle.codex32.proofs.splitting.are_equal.Given as goal

abbrev pub invariant-loop-b : goal.invariant-loop-b
invariant-loop-b l = l.equal ≡ list_all (λ b. b == slice_index l.bytes 0) (take l.b-index l.bytes)
