use Rattle.std.proofs.Common.{refl, sym}
use Rattle.bech32_more_calls.specs.confidential.Nearest.{IsLiquidAsked}
use Rattle.mend.proofs.LiquidReplies.{liquid-answer, liquid-bad_word, liquid-not_asked}
use Rattle.mend.proofs.Replies.{adds-wider}
use Rattle.mend.proofs.liquid_near.liquid.Goals as goal

pub returns-in_default-clause-answer : goal.returns-in_default-clause-answer
returns-in_default-clause-answer c = (liquid-bad_word c.args.text.now c.args.asked.0.now c.args.asked.1.now (sym c.in_default.ensures), refl)

pub returns-then-not-is_asked-clause-answer : goal.returns-then-not-is_asked-clause-answer
returns-then-not-is_asked-clause-answer c =
    let unasked : IsLiquidAsked c.args.asked.0.now c.in-Some.errors → ⊥ = λ asked. let yes = c.is_asked.ensures.1 asked in let not = c.if-not-is_asked.true in absurd cc in
    (liquid-not_asked c.args.text.now c.args.asked.0.now c.args.asked.1.now c.in-Some.errors (sym c.in-Some.ensures) unasked, refl)

pub returns-clause-answer : goal.returns-clause-answer
returns-clause-answer c =
    let asked = c.is_asked.ensures.0 c.if-not-is_asked.false in
    adds-wider _ _ c.append_said.result _ _
    (λ t h. liquid-answer c.args.text.now c.args.asked.0.now c.args.asked.1.now c.in-Some.errors (sym c.in-Some.ensures) asked (λ s. s.items) c.said_near.result t c.said_near.ensures h)
    c.append_said.ensures.answer
