use Rattle.std.specs.Prelude.{flat_map, map}
use Rattle.std.proofs.Common.{◌≡◌, ◌≤◌, ◌*◌, ◌++◌, length, take, drop}
use Rattle.bech32_more_calls.specs.descriptor.Mends.{number_of_mend_change, places_of}
use Rattle.bech32_more_calls.proofs.descriptor.mends.put_each.Given as goal

abbrev pub invariant-loop-i : goal.invariant-loop-i
invariant-loop-i g l = record {
  size : l.end ≡ length (flat_map (λ m. m.text.items) (take l.i l.found));
  fits : l.end ≤ length l.initial.texts;
  kinds : l.kinds ≡ map (λ m. number_of_mend_change m.edit.change) (take l.i l.found) ++ drop l.i l.initial.kinds;
  places : l.places ≡ flat_map (λ m. places_of m.edit) (take l.i l.found) ++ drop (2 * l.i) l.initial.places;
  buffer : l.texts ≡ flat_map (λ m. m.text.items) (take l.i l.found) ++ drop l.end l.initial.texts;
}
