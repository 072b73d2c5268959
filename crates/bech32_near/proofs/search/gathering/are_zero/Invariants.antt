use Rattle.std.specs.List.{AllByRecursion}
use Rattle.std.proofs.Common.{◌≡◌, take}
use Rattle.bech32_gf.specs.Fe32 as fe32
use Rattle.bech32_near.proofs.search.gathering.are_zero.Given as goal

abbrev pub invariant-loop-element : goal.invariant-loop-element
invariant-loop-element l = AllByRecursion (λ x. x ≡ fe32.zero) (take l.element-index l.elements)
