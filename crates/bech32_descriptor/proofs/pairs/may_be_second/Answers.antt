use Rattle.std.proofs.Common.{◌∙◌, sym}
use Rattle.std.proofs.lemmas.Bool.{false≢true}
use Rattle.bech32_descriptor.proofs.TwoChanges.{none_by, not_same}
use Rattle.bech32_descriptor.proofs.pairs.may_be_second.Goals as goal

pub returns-then-text-place-clause-other : goal.returns-then-text-place-clause-other
returns-then-text-place-clause-other c t = absurd (false≢true t)

pub returns-then-text-place-clause-none : goal.returns-then-text-place-clause-none
returns-then-text-place-clause-none c wrong p h = not_same c.args.text.now c.args.place c.args.byte p h c.if-text-place.true

pub change_of-requires : goal.change_of-requires
change_of-requires c = record {
  long = c.requires.ready.long;
  few = c.requires.ready.few;
  within = c.requires.within;
  enough = c.requires.ready.enough;
}

pub returns-clause-other : goal.returns-clause-other
returns-clause-other c t = c.if-text-place.false

pub returns-clause-none : goal.returns-clause-none
returns-clause-none c wrong p h =
    none_by c.args.rows.now c.args.text.now c.args.cells.now c.args.word c.args.place c.args.byte c.requires.ready c.requires.within c.requires.marks
    (λ m. false≢true (sym wrong ∙ c.may_be_marked.ensures (rw c.change_of.ensures m))) p h
