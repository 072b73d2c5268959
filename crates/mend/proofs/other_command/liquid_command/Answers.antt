use Rattle.std.proofs.Common.{◌≡◌, ◌∷◌, codes}
use Rattle.line_program.specs.Words.{words}
use Rattle.mend.proofs.OtherCommands.{liquid-no-word}
use Rattle.mend.proofs.other_command.liquid_command.Goals as goal

pub returns-in_err-name : goal.returns-in_err-name
returns-in_err-name c = rw c.from_residual.ensures (liquid-no-word _ c.in_err-name.ensures)

pub returns-in-liquid : goal.returns-in-liquid
returns-in-liquid c =
    let spelled : words c.args.line.now ≡ codes "liquid" ∷ words c.in_ok-name.arguments.now = cc (c.in_ok-name.ensures.0, c.in-liquid.is) in
    rw spelled c.liquid_arguments.ensures
