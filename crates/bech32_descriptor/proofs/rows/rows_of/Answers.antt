use Rattle.std.proofs.Common.{◌≡◌, ◌+◌, ◌++◌, ◌∷◌, [], ℕ, List, length, sym, ap, subst, ◌∙◌, arith}
use Rattle.std.specs.Prelude.{◌/◌}
use Rattle.std.proofs.lemmas.List.{length_push}
use Rattle.bech32_gf.specs.Fe32.{element}
use Rattle.bech32_descriptor.specs.Walks.{AreRows, rows_for, times_power_of_x}
use Rattle.bech32_descriptor.specs.Words.{IsWordOfSymbols}
use Rattle.bech32_descriptor.proofs.RowsOfWords.{more_rows, no_rows}
use Rattle.bech32_descriptor.proofs.rows.rows_of.Goals as goal

pub loop-x-init : goal.loop-x-init
loop-x-init g c = record {
  rows = subst AreRows (sym c.in_ok-rows.ensures.items) no_rows;
  size = ap (λ (u : List ℕ). length u) c.in_ok-rows.ensures.items;
}

pub next_word-word-requires : goal.next_word-word-requires
next_word-word-requires g c = subst AreRows (sym c.deref.ensures.value) c.loop-x.invariant.rows

pub loop-x-preserved : goal.loop-x-preserved
loop-x-preserved g c =
    let rows = c.loop-x.rows.items in
    let w = c.next_word-word.result in
    let same = c.deref.ensures.value in
    let word = subst (λ (u : List ℕ). IsWordOfSymbols w (times_power_of_x (length u / 32) (element (length u) ∷ []))) same c.next_word-word.ensures in
    let size : length (rows ++ w ∷ []) ≡ c.loop-x._x + 1 = length_push rows w ∙ ap (λ (n : ℕ). n + 1) c.loop-x.invariant.size in
    record {
      rows = subst AreRows (sym c.in_ok-push.ensures.items) (more_rows rows w c.loop-x.invariant.rows word);
      size = ap (λ (u : List ℕ). length u) c.in_ok-push.ensures.items ∙ size;
    }

pub returns : goal.returns
returns g c =
    let size : c.loop-x._x ≡ rows_for c.args.n = omega arith in
    (c.loop-x.invariant.rows, c.loop-x.invariant.size ∙ size)
