use Rattle.std.proofs.Common.{take}
use Rattle.std.specs.List.{AllByRecursion}
use Rattle.codex32.specs.Derive.{IsOfSet}
use Rattle.codex32.proofs.derivation.are_of_set.Given as goal

-- the first ones are of the set
abbrev pub invariant-loop-i : goal.invariant-loop-i
invariant-loop-i l = AllByRecursion (IsOfSet l.first) (take l.i l.shares)
