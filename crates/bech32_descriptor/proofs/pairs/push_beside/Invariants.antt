use Rattle.std.specs.Prelude.{map}
use Rattle.std.proofs.Common.{◌≡◌, ◌++◌, take}
use Rattle.bech32_descriptor.specs.PairWalks.{beside}
use Rattle.bech32_descriptor.proofs.pairs.push_beside.Given as goal

abbrev pub invariant-loop-first : goal.invariant-loop-first
invariant-loop-first g l = l.found.items ≡ l.initial.found.items ++ map (beside l.second) (take l.first-index l.firsts)
