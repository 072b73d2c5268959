use Rattle.std.proofs.Common.{◌≡◌, ◌+◌, take}
use Rattle.std.specs.List.{sum}
use Rattle.codex32_small.proofs.derive.do_add_up.Given as goal

-- what is left, with the first lengths
abbrev pub invariant-loop-i : goal.invariant-loop-i
invariant-loop-i l = l.left + sum (take l.i l.lengths) ≡ l.fn.total
