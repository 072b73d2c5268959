use Rattle.std.proofs.Common.{◌<◌, ◌∙◌, length, inl, sym, arith}
use Rattle.std.proofs.lemmas.Bool.{true≢false}
use Rattle.bech32_more_calls.proofs.Puts.{puts_no_mends}
use Rattle.bech32_more_calls.proofs.descriptor.mends.put_mends.Goals as goal

pub returns-then-text-lt8-clause-all : goal.returns-then-text-lt8-clause-all
returns-then-text-lt8-clause-all c all =
    let short : length c.args.text.now < 8 = omega arith in
    rw c.nothing.ensures.0 (puts_no_mends c.args.most c.args.text.now c.args.kinds.now c.args.places.now c.args.texts.now short)

pub returns-then-text-lt8-clause-first : goal.returns-then-text-lt8-clause-first
returns-then-text-lt8-clause-first c part = absurd (true≢false (sym c.nothing.ensures.1 ∙ part))

pub returns-in-Some-clause-all : goal.returns-in-Some-clause-all
returns-in-Some-clause-all c = (rw c.in-Some.is at c.put_found-listed.ensures).all

pub returns-in-Some-clause-first : goal.returns-in-Some-clause-first
returns-in-Some-clause-first c = (rw c.in-Some.is at c.put_found-listed.ensures).first

pub returns-in-None-clause-same : goal.returns-in-None-clause-same
returns-in-None-clause-same c = inl (rw c.in-None.is at c.put_found-listed.ensures)
