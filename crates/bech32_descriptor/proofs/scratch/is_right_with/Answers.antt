use Rattle.std.specs.Prelude.{set}
use Rattle.std.proofs.Common.{ℕ, bit_xor, sym, subst, get_or, ◌∙◌}
use Rattle.std.proofs.lemmas.List.{set-get_or, set-set}
use Rattle.std.proofs.lemmas.Bool.{false≢true}
use Rattle.bech32_descriptor.specs.Descriptor.{polynomial_of}
use Rattle.bech32_descriptor.specs.Words.{IsWordOfSymbols}
use Rattle.bech32_descriptor.proofs.Rewritten.{changed_ready}
use Rattle.bech32_descriptor.proofs.scratch.is_right_with.Goals as goal

pub change_of-requires : goal.change_of-requires
change_of-requires c = record {
  long = c.requires.ready.long;
  few = c.requires.ready.few;
  within = c.requires.within;
  enough = c.requires.ready.enough;
}

pub returns-then-not-is_target-clause-right : goal.returns-then-not-is_target-clause-right
returns-then-not-is_target-clause-right c =
    let new = set c.args.text.now c.args.i c.args.b in
    let word = subst (λ (v : ℕ). IsWordOfSymbols (bit_xor c.args.word v) (polynomial_of new)) (sym c.change_of.ensures)
    (changed_ready c.args.rows.now c.args.text.now c.args.word c.args.i c.args.b c.requires.ready c.requires.within).word_is in (
      λ t. absurd (false≢true t),
      λ d. (c.if-not-is_target.ensures (polynomial_of new) word).1 d.has_target,
    )

pub is_right-right-requires : goal.is_right-right-requires
is_right-right-requires c =
    subst (λ (v : ℕ). IsWordOfSymbols (bit_xor c.args.word v) (polynomial_of (set c.args.text.now c.args.i c.args.b))) (sym c.change_of.ensures)
    (changed_ready c.args.rows.now c.args.text.now c.args.word c.args.i c.args.b c.requires.ready c.requires.within).word_is

pub returns-clause-text : goal.returns-clause-text
returns-clause-text c = set-set c.args.text.now c.args.i c.args.b (get_or c.args.text.now c.args.i 0) ∙ set-get_or c.args.text.now c.args.i 0

pub returns-clause-right : goal.returns-clause-right
returns-clause-right c = c.is_right-right.ensures
