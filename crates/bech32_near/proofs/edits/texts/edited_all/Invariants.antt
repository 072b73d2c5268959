use Rattle.std.specs.Prelude.{string_bytes}
use Rattle.std.specs.List.{AllByRecursion}
use Rattle.std.specs.Vec.Iter.{into_iter_items, into_iter_len}
use Rattle.std.proofs.Common.{◌≡◌, ◌++◌, length, map}
use Rattle.bech32_near.specs.edits.Walks.{IsMadeText}
use Rattle.bech32_near.proofs.edits.texts.edited_all.Given as goal

abbrev pub invariant-loop-edit : goal.invariant-loop-edit
invariant-loop-edit g l = record {
  rest : l.yielded ++ into_iter_items l.edit-iterator ≡ l.fn.edits.items;
  left : into_iter_len l.edit-iterator ≡ length (into_iter_items l.edit-iterator);
  made : (map (λ m. m.edit) l.texts.items ≡ l.yielded)
      × AllByRecursion (λ m. IsMadeText m.edit l.text (string_bytes m.text)) l.texts.items;
}
