use Rattle.std.proofs.Common.{◌≡◌, ◌++◌, take}
use Rattle.bech32_near.proofs.search.gathering.push_all.Given as goal

abbrev pub invariant-loop-item : goal.invariant-loop-item
invariant-loop-item g l = l.listing ≡ l.fn.listing ++ take l.item-index l.items
