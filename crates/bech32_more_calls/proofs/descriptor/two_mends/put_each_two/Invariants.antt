use Rattle.std.specs.Prelude.{flat_map}
use Rattle.std.proofs.Common.{◌≡◌, ◌≤◌, ◌*◌, ◌++◌, length, take, drop}
use Rattle.bech32_more_calls.specs.descriptor.TwoMends.{places_of_two}
use Rattle.bech32_more_calls.proofs.descriptor.two_mends.put_each_two.Given as goal

abbrev pub invariant-loop-i : goal.invariant-loop-i
invariant-loop-i g l = record {
  size : l.end ≡ length (flat_map (λ m. m.text.items) (take l.i l.found));
  fits : l.end ≤ length l.initial.texts;
  places : l.places ≡ flat_map (λ m. places_of_two m.edits) (take l.i l.found) ++ drop (2 * l.i) l.initial.places;
  buffer : l.texts ≡ flat_map (λ m. m.text.items) (take l.i l.found) ++ drop l.end l.initial.texts;
}
