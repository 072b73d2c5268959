use Rattle.std.proofs.Common.{rules, subst, ap, ◌∙◌, arith}
use Rattle.std.specs.Prelude.{IfOk}
use Rattle.bech32_lookup.specs.Question.{Question}
use Rattle.bech32_correction.specs.Given.{IsAnswerWith, up_to}
use Rattle.bech32_correction.proofs.Within.{searched}
use Rattle.bech32_correction.proofs.corrector.Corrector.listing.Goals as goal

pub listing_given-requires : goal.listing_given-requires
listing_given-requires g c = (search rules, (search rules, (c.self.invariant.3, omega (arith, c.end_of-end.ensures.within, c.self.invariant.0))))

pub returns-clause-answer : goal.returns-clause-answer
returns-clause-answer g c =
    let code = g.Ck.Checksum.code in
    let bound = g.Ck.Checksum.bound in
    let given = c.args.question.erasures.now in
    let before = c.self.inside.erasures in
    subst (λ (q : Question). IfOk c.listing_given.result (λ answer. IsAnswerWith code bound q given answer))
    (searched c.self.inside.residue c.self.inside.window before c.args.question.highest ∙ ap (λ (q : Question). up_to q c.args.question.highest) c.self.view_is)
    (rw c.end_of-end.ensures.value at (c.listing_given.ensures.answer before))
