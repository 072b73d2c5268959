use Rattle.std.proofs.Common.{◌++◌, ℕ, List, length, ap, sym, subst, ◌∙◌, arith}
use Rattle.std.proofs.lemmas.List.{length-replicate}
use Rattle.bech32_descriptor.specs.Pairs.{AreAllByTwo, IsMendByTwo}
use Rattle.bech32_descriptor.specs.declared.edits.TwoEdits.{TwoEdits}
use Rattle.bech32_descriptor.proofs.pairs.two_on_copy.Goals as goal

pub push_two-requires : goal.push_two-requires
push_two-requires g c = record {
  ready = record {
    long = c.requires.long;
    few = c.requires.rows.few;
    enough = c.requires.rows.enough;
    rows_are = c.requires.rows.rows_are;
    word_is = c.residue_of-word.ensures;
  };
  some = omega (arith, ap (λ (l : List ℕ). length l) c.deref_mut.ensures.value, ap (λ (l : List ℕ). length l) (c.in_ok-cells.ensures.items_if_clones_equal (λ y e. e)), length-replicate {A = ℕ} c.cells_for.result 0, c.cells_for.ensures.some);
}

pub returns : goal.returns
returns g c =
    let (edits, is, all) = c.in_ok-push_two.ensures in
    subst (λ (l : List TwoEdits). AreAllByTwo (IsMendByTwo c.args.text.now) l) (sym (is ∙ ap (λ (l : List TwoEdits). l ++ edits) c.new-found.ensures.items)) all
