use Rattle.std.proofs.Common.{ap}
use Rattle.mend.specs.Request.{Liquid, LiquidAt, asks}
use Rattle.mend.proofs.OtherCommands.{first-none, first-some}
use Rattle.mend.proofs.other_command.liquid_arguments.Goals as goal

pub returns-in-Some : goal.returns-in-Some
returns-in-Some c = first-some _ _ _ (ap (asks (λ a. Liquid a.0 a.1)) c.in-Some.ensures)

pub returns-in_err-text : goal.returns-in_err-text
returns-in_err-text c =
    rw c.from_residual.ensures (first-none _ _ _ (ap (asks (λ a. Liquid a.0 a.1)) c.in_default.ensures) (ap (asks (λ a. LiquidAt a.0 a.1.0 a.1.1)) c.in_err-text.ensures))

pub returns : goal.returns
returns c = first-none _ _ _ (ap (asks (λ a. Liquid a.0 a.1)) c.in_default.ensures) (ap (asks (λ a. LiquidAt a.0 a.1.0 a.1.1)) c.in_ok-text.ensures)
