use Rattle.std.specs.Prelude.{flat_map}
use Rattle.std.proofs.Common.{◌≡◌, ◌++◌, codes, take}
use Rattle.mend.proofs.found.reply_of.Given as goal

abbrev pub invariant-loop-one : goal.invariant-loop-one
invariant-loop-one g l = l.said.items ≡ codes "ok" ++ flat_map g.T.Found.spelling (take l.one-index l.found)
