use Rattle.std.specs.Prelude.{true, false}
use Rattle.std.proofs.Common.{◌≡◌, arith, sym, ◌∙◌}
use Rattle.bech32_bch.proofs.values.values.Goals as goal

refused : {P : Type 0} → false ≡ true → P
refused h = absurd (cc h)

pub returns-clause-found : goal.returns-clause-found
returns-clause-found g c = λ v explained not_zero. refused (sym c.if-branch.false ∙ (c.in_ok-push_values.ensures.found v explained not_zero).0)

pub returns-then-branch-clause-placed : goal.returns-then-branch-clause-placed
returns-then-branch-clause-placed g c = c.in_ok-push_values.ensures.placed c.if-branch.true

pub returns-then-branch-clause-not_zero : goal.returns-then-branch-clause-not_zero
returns-then-branch-clause-not_zero g c = c.in_ok-push_values.ensures.not_zero c.if-branch.true

pub returns-then-branch-clause-found : goal.returns-then-branch-clause-found
returns-then-branch-clause-found g c = λ v explained not_zero. (c.in_ok-push_values.ensures.found v explained not_zero).1

pub returns-in_err-locators-clause-in_place : goal.returns-in_err-locators-clause-in_place
returns-in_err-locators-clause-in_place g c = λ fits. refused (c.in_err-locators.ensures.in_place (omega (arith, fits, c.requires)))

pub returns-in_err-push_values-clause-in_place : goal.returns-in_err-push_values-clause-in_place
returns-in_err-push_values-clause-in_place g c = λ fits. refused (c.in_err-push_values.ensures.in_place fits)
