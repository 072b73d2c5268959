use Rattle.std.proofs.Common.{◌≡◌, length}
use Rattle.bech32_descriptor.specs.Walks.{AreRows}
use Rattle.bech32_descriptor.proofs.rows.rows_of.Given as goal

abbrev pub invariant-loop-x : goal.invariant-loop-x
invariant-loop-x g l = record { rows : AreRows l.rows.items; size : length l.rows.items ≡ l._x }
