use Rattle.std.proofs.Common.{◌≡◌, ◌∷◌}
use Rattle.line_program.specs.Words.{words}
use Rattle.c32_replies.proofs.Words.{encode-no-hex}
use Rattle.c32_replies.proofs.command.Command.parse_encode.Goals as goal

pub returns-in_err-only_word : goal.returns-in_err-only_word
returns-in_err-only_word c =
    let spelled : words c.args.arguments.now ≡ c.in_ok-threshold.threshold.now ∷ c.in_ok-identifier.identifier.now ∷ c.in_ok-share_index.share_index.now ∷ words c.in_ok-share_index.hex.now =
    cc (c.in_ok-threshold.ensures.0, c.in_ok-identifier.ensures.0, c.in_ok-share_index.ensures.0) in
    rw c.from_residual-in_err-only_word.ensures (encode-no-hex (words c.args.arguments.now) _ _ _ _ spelled c.in_err-only_word.ensures)
