use Rattle.std.proofs.Common.{◌≡◌, ◌∙◌, ℕ, List, None, Option, Some, subst}
use Rattle.bech32_typed.specs.Readings.{reading_at}
use Rattle.bech32_typed.specs.Tries.{IsTaken, tries_of_numbered, tries_of_reading}
use Rattle.bech32_typed.specs.declared.tries.Budget.{Budget}
use Rattle.bech32_typed.proofs.Taking.{taken-end, taken-next}
use Rattle.bech32_typed.proofs.tries.take_readings.Goals as goal

pub returns-in_default : goal.returns-in_default
returns-in_default g c =
    let slips = c.args.slips in
    let read : c.as_slice.result.now ≡ reading_at c.args.part.now c.loop-i.i = c.as_slice.ensures.value ∙ c.in_ok-read.ensures in
    taken-end (tries_of_numbered slips c.args.part.now) c.args.left c.loop-i.left c.loop-i.i c.loop-i.invariant c.args.count c.loop-i-test.true
    (subst (λ (r : List ℕ). IsTaken c.loop-i.left (tries_of_reading slips r) None) read
    (subst (λ (o : Option Budget). IsTaken c.loop-i.left (tries_of_reading slips c.as_slice.result.now) o) c.in_default.is c.in_ok-rest.ensures))

pub loop-i-preserved : goal.loop-i-preserved
loop-i-preserved g c =
    let slips = c.args.slips in
    let read : c.as_slice.result.now ≡ reading_at c.args.part.now c.loop-i.i = c.as_slice.ensures.value ∙ c.in_ok-read.ensures in
    taken-next (tries_of_numbered slips c.args.part.now) c.args.left c.loop-i.left c.loop-i.i c.loop-i.invariant c.in-Some.rest
    (subst (λ (r : List ℕ). IsTaken c.loop-i.left (tries_of_reading slips r) (Some c.in-Some.rest)) read
    (subst (λ (o : Option Budget). IsTaken c.loop-i.left (tries_of_reading slips c.as_slice.result.now) o) c.in-Some.is c.in_ok-rest.ensures))
