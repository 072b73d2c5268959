use Rattle.std.specs.Prelude.{set}
use Rattle.std.proofs.Common.{ℕ, bit_xor, refl, sym, subst}
use Rattle.std.proofs.lemmas.Bool.{false≢true}
use Rattle.bech32_descriptor.specs.Descriptor.{polynomial_of}
use Rattle.bech32_descriptor.specs.Words.{IsWordOfSymbols}
use Rattle.bech32_descriptor.proofs.Rewritten.{changed_ready}
use Rattle.bech32_descriptor.proofs.Told.{put_not_told, put_told}
use Rattle.bech32_descriptor.proofs.walks.put_at.Goals as goal

pub returns-then-byte-put-clause-all : goal.returns-then-byte-put-clause-all
returns-then-byte-put-clause-all c =
    let put = c.args.put in
    put_not_told put.put_in put.kept put.place c.args.text.now c.args.byte (λ q. q.0 c.if-byte-put.true)

pub change_by-requires : goal.change_by-requires
change_by-requires c = record {
  long = c.requires.ready.long;
  few = c.requires.ready.few;
  within = c.requires.within;
  enough = c.requires.ready.enough;
  bases = c.requires.bases;
}

pub returns-then-not-is_target-clause-all : goal.returns-then-not-is_target-clause-all
returns-then-not-is_target-clause-all c =
    let put = c.args.put in
    let text = c.args.text.now in
    let new = set text put.place c.args.byte in
    let word = subst (λ (v : ℕ). IsWordOfSymbols (bit_xor put.word v) (polynomial_of new)) (sym c.change_by.ensures)
    (changed_ready c.args.rows.now text put.word put.place c.args.byte c.requires.ready c.requires.within).word_is in
    put_not_told put.put_in put.kept put.place text c.args.byte (λ q. false≢true ((c.if-not-is_target.ensures (polynomial_of new) word).1 q.1.has_target))

pub returns-then-not-is_right_with-clause-all : goal.returns-then-not-is_right_with-clause-all
returns-then-not-is_right_with-clause-all c =
    let put = c.args.put in
    put_not_told put.put_in put.kept put.place c.args.text.now c.args.byte (λ q. false≢true (c.if-not-is_right_with.ensures.right.1 q.1))

pub returns-clause-all : goal.returns-clause-all
returns-clause-all c =
    let put = c.args.put in
    rw c.change_to.ensures (put_told put.put_in put.kept put.place c.args.text.now c.args.byte c.requires.printed
    (c.if-byte-put.false, c.if-not-is_right_with.ensures.right.0 refl))
