use Rattle.std.proofs.Common.{◌≡◌, ◌++◌, take}
use Rattle.bech32_bch.proofs.short_vec.ShortVec.push_all.Given as goal

abbrev pub invariant-loop-item : goal.invariant-loop-item
invariant-loop-item g l = l.self ≡ l.fn.self ++ take l.item-index l.items
