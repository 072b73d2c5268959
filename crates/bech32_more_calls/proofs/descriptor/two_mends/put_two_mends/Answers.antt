use Rattle.std.proofs.Common.{◌<◌, ◌∙◌, length, inl, sym, arith}
use Rattle.std.proofs.lemmas.Bool.{true≢false}
use Rattle.bech32_more_calls.proofs.TwoPuts.{puts_no_two_mends}
use Rattle.bech32_more_calls.proofs.descriptor.two_mends.put_two_mends.Goals as goal

pub returns-then-text-lt9-clause-all : goal.returns-then-text-lt9-clause-all
returns-then-text-lt9-clause-all c all =
    let short : length c.args.text.now < 9 = omega arith in
    rw c.nothing.ensures.0 (puts_no_two_mends c.args.text.now c.args.places.now c.args.texts.now short)

pub returns-then-text-lt9-clause-first : goal.returns-then-text-lt9-clause-first
returns-then-text-lt9-clause-first c part = absurd (true≢false (sym c.nothing.ensures.1 ∙ part))

pub returns-in-Some-clause-all : goal.returns-in-Some-clause-all
returns-in-Some-clause-all c = (rw c.in-Some.is at c.put_two_found-listed.ensures).all

pub returns-in-Some-clause-first : goal.returns-in-Some-clause-first
returns-in-Some-clause-first c = (rw c.in-Some.is at c.put_two_found-listed.ensures).first

pub returns-in-None-clause-same : goal.returns-in-None-clause-same
returns-in-None-clause-same c = inl (rw c.in-None.is at c.put_two_found-listed.ensures)
