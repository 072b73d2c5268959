use Rattle.std.specs.Prelude.{map}
use Rattle.std.proofs.Common.{◌≡◌, ◌++◌, take, drop}
use Rattle.bech32_calls.proofs.listed.put_kinds_and_places.Given as goal

abbrev pub invariant-loop-i : goal.invariant-loop-i
invariant-loop-i g l = record {
  kinds : l.kinds ≡ map g.R.Row.kind_of (take l.i l.rows) ++ drop l.i l.initial.kinds;
  places : l.places ≡ map g.R.Row.place_of (take l.i l.rows) ++ drop l.i l.initial.places;
}
