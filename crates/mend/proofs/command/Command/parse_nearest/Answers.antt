use Rattle.std.proofs.Common.{◌≡◌, ◌∷◌, sym}
use Rattle.line_program.specs.Words.{words}
use Rattle.line_program.proofs.Split.{words-some}
use Rattle.mend.proofs.Split.{nearest-at-no-errors, nearest-no-checksum, nearest-no-errors, nearest-no-text}
use Rattle.mend.proofs.command.Command.parse_nearest.Goals as goal

pub returns-in_err-checksum : goal.returns-in_err-checksum
returns-in_err-checksum c =
    rw c.from_residual-in_err-checksum.ensures (nearest-no-checksum c.args.arguments.now _ _ c.in_ok-name.ensures.0 (sym c.in_err-checksum.ensures))

pub returns-in_err-text : goal.returns-in_err-text
returns-in_err-text c =
    rw c.from_residual-in_err-text.ensures (nearest-no-text c.args.arguments.now _ _ c.in_ok-name.ensures.0 c.in_err-text.ensures)

pub returns-in_err-errors : goal.returns-in_err-errors
returns-in_err-errors c =
    let spelled : words c.args.arguments.now ≡ c.in_ok-name.name.now ∷ c.in_ok-text.text.now ∷ words c.in_ok-text.arguments.now = cc (c.in_ok-name.ensures.0, c.in_ok-text.ensures.0) in
    rw c.from_residual-in_err-errors.ensures
    (nearest-no-errors c.args.arguments.now _ _ c.in_ok-text.arguments.now spelled c.in_default.ensures c.in_err-errors.ensures)

pub returns-in_err-errors-2 : goal.returns-in_err-errors-2
returns-in_err-errors-2 c =
    let spelled : words c.args.arguments.now ≡ c.in_ok-name.name.now ∷ c.in_ok-text.text.now ∷ c.in-Some.locations.now ∷ words c.in-Some.errors.now =
    cc (c.in_ok-name.ensures.0, c.in_ok-text.ensures.0, c.in-Some.ensures.0) in
    rw c.from_residual-in_err-errors-2.ensures
    (nearest-at-no-errors c.args.arguments.now _ _ _ _ spelled (words-some c.in-Some.errors.now) c.in_err-errors-2.ensures)
