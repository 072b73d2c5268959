use Rattle.std.proofs.Common.{None, Option, Some, subst}
use Rattle.bech32_typed.specs.Fronts.{front_of}
use Rattle.bech32_typed.specs.Tries.{IsTaken, tries_of_front}
use Rattle.bech32_typed.specs.declared.fronts.Front.{Front}
use Rattle.bech32_typed.specs.declared.tries.Budget.{Budget}
use Rattle.bech32_typed.proofs.Taking.{taken-more, taken-stop}
use Rattle.bech32_typed.proofs.tries.take_level.Goals as goal

pub returns-in_default : goal.returns-in_default
returns-in_default g c =
    let f = tries_of_front c.args.pass c.args.text.now c.args.slips in
    taken-stop f c.args.left c.loop-i.left c.args.fronts.now c.loop-i.i (front_of 0 0) c.loop-i-test.true c.loop-i.invariant
    (subst (λ (front : Front). IsTaken c.loop-i.left (f front) None) c.front_at-front.ensures
    (subst (λ (o : Option Budget). IsTaken c.loop-i.left (f c.front_at-front.result) o) c.in_default.is c.in_ok-rest.ensures))

pub loop-i-preserved : goal.loop-i-preserved
loop-i-preserved g c =
    let f = tries_of_front c.args.pass c.args.text.now c.args.slips in
    taken-more f c.args.left c.loop-i.left c.args.fronts.now c.loop-i.i (front_of 0 0) c.in-Some.rest c.loop-i-test.true c.loop-i.invariant
    (subst (λ (front : Front). IsTaken c.loop-i.left (f front) (Some c.in-Some.rest)) c.front_at-front.ensures
    (subst (λ (o : Option Budget). IsTaken c.loop-i.left (f c.front_at-front.result) o) c.in-Some.is c.in_ok-rest.ensures))
