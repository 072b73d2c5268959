use Rattle.std.specs.List.{AllByRecursion}
use Rattle.std.specs.Vec.Iter.{into_iter_items, into_iter_len}
use Rattle.std.proofs.Common.{◌≡◌, ◌++◌, length, map}
use Rattle.bech32_descriptor.specs.Edits.{made}
use Rattle.bech32_descriptor.proofs.mends.made_all.Given as goal

abbrev pub invariant-loop-edit : goal.invariant-loop-edit
invariant-loop-edit g l = record {
  rest : l.yielded ++ into_iter_items l.edit-iterator ≡ l.fn.edits.items;
  left : into_iter_len l.edit-iterator ≡ length (into_iter_items l.edit-iterator);
  texts : (map (λ m. m.edit) l.found.items ≡ l.yielded)
      × AllByRecursion (λ m. m.text.items ≡ made m.edit l.text) l.found.items;
}
