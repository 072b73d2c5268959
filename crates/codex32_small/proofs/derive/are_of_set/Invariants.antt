use Rattle.std.proofs.Common.{take}
use Rattle.std.specs.List.{AllByRecursion}
use Rattle.codex32.specs.Derive.{IsOfSet}
use Rattle.codex32_small.specs.Parts.{share_of_part}
use Rattle.codex32_small.proofs.derive.are_of_set.Given as goal

-- the first ones are of the set
abbrev pub invariant-loop-i : goal.invariant-loop-i
invariant-loop-i l = AllByRecursion (λ p. IsOfSet (share_of_part l.first) (share_of_part p)) (take l.i l.parts)
