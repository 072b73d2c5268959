use Rattle.std.proofs.Common.{◌≡◌, ◌∷◌}
use Rattle.line_program.specs.Words.{words}
use Rattle.b32_replies.proofs.CorrectSplit.{no-locations}
use Rattle.b32_replies.proofs.command.Command.parse_correct.Goals as goal

pub returns-in_err-locations : goal.returns-in_err-locations
returns-in_err-locations c =
    let spelled : words c.args.arguments.now ≡ c.in_ok-name.name.now ∷ c.in-Some.text.now ∷ words c.in-Some.locations.now =
    cc (c.in_ok-name.ensures.0, c.in-Some.ensures.0) in
    rw c.from_residual-in_err-locations.ensures
    (no-locations c.args.arguments.now c.in-Some.locations.now c.in_ok-name.name.now c.in-Some.text.now spelled c.in_err-locations.ensures)
