use Rattle.std.proofs.Common.{◌≡◌, ◌≤◌, ◌==◌, length, take}
use Rattle.std.specs.List.{filter}
use Rattle.bech32_typed.specs.Slips.{unread}
use Rattle.bech32_typed.proofs.frames.count_unread.Given as goal

abbrev pub invariant-loop-c : goal.invariant-loop-c
invariant-loop-c l = (l.count ≡ length (filter (λ c. c == unread) (take l.c-index l.text))) × (l.count ≤ l.c-index)
