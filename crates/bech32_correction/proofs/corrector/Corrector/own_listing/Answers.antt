use Rattle.std.proofs.Common.{rules, subst}
use Rattle.std.specs.Prelude.{IfOk}
use Rattle.bech32_lookup.specs.Question.{IsAnswerTo, Question}
use Rattle.bech32_correction.proofs.corrector.Corrector.own_listing.Goals as goal

pub listing_below-requires : goal.listing_below-requires
listing_below-requires g c =
    (search rules, (search rules, (search rules, (c.self.invariant.3, (c.self.invariant.0, (c.self.invariant.1, λ _. c.self.invariant.2))))))

pub returns-clause-answer : goal.returns-clause-answer
returns-clause-answer g c =
    subst (λ (q : Question). IfOk c.listing_below.result (λ answer. IsAnswerTo g.Ck.Checksum.code g.Ck.Checksum.bound q answer))
    c.self.view_is c.listing_below.ensures.answer
