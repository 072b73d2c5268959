use Rattle.std.proofs.Common.{◌≡◌, take}
use Rattle.bech32_near.specs.search.Sketch.{cleared_by}
use Rattle.bech32_near.proofs.search.sketch.cleared_by.Given as goal

abbrev pub invariant-loop-row : goal.invariant-loop-row
invariant-loop-row l = l.left ≡ cleared_by (take l.row-index l.rows) l.number
