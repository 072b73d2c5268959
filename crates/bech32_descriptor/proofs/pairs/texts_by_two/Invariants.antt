use Rattle.std.specs.Prelude.{map}
use Rattle.std.specs.List.{AllByRecursion}
use Rattle.std.specs.Vec.Iter.{into_iter_items, into_iter_len}
use Rattle.std.proofs.Common.{◌≡◌, ◌++◌, length}
use Rattle.bech32_descriptor.specs.Pairs.{made_by_two}
use Rattle.bech32_descriptor.proofs.pairs.texts_by_two.Given as goal

abbrev pub invariant-loop-edits : goal.invariant-loop-edits
invariant-loop-edits g l = record {
  rest : l.yielded ++ into_iter_items l.edits-iterator ≡ l.fn.found.items;
  left : into_iter_len l.edits-iterator ≡ length (into_iter_items l.edits-iterator);
  texts : (map (λ m. m.edits) l.all.items ≡ l.yielded)
      × AllByRecursion (λ m. m.text.items ≡ made_by_two m.edits l.text) l.all.items;
}
