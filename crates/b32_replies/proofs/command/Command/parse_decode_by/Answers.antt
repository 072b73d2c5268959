use Rattle.std.proofs.Common.{refl, ap, ◌∙◌}
use Rattle.b32_replies.specs.Request.{decode_by_arguments, decode_by_request}
use Rattle.b32_replies.proofs.ElementsSplit.{no-second}
use Rattle.b32_replies.proofs.command.Command.parse_decode_by.Goals as goal

pub returns-in_err-text : goal.returns-in_err-text
returns-in_err-text c =
    rw c.from_residual-in_err-text.ensures
    (ap (decode_by_arguments c.args.content) c.in_ok-name.ensures.0
    ∙ no-second (decode_by_request c.args.content) c.in_ok-name.text.now c.in_ok-name.name.now (λ x y more. refl) c.in_err-text.ensures)
