use Rattle.std.proofs.Common.{◌≡◌, ◌∷◌, []}
use Rattle.line_program.specs.Words.{words}
use Rattle.c32_replies.proofs.Words.{split-no-hex, split-no-random, split-words}
use Rattle.c32_replies.proofs.command.Command.parse_split.Goals as goal

pub returns-in_err-only_word : goal.returns-in_err-only_word
returns-in_err-only_word c =
    let spelled : words c.args.arguments.now
    ≡ c.in_ok-threshold.threshold.now ∷ c.in_ok-count.count.now ∷ c.in_ok-identifier.identifier.now ∷ c.in_ok-hex.hex.now ∷ words c.in_ok-hex.random.now =
    cc (c.in_ok-threshold.ensures.0, c.in_ok-count.ensures.0, c.in_ok-identifier.ensures.0, c.in_ok-hex.ensures.0) in
    rw c.from_residual-in_err-only_word.ensures (split-no-random (words c.args.arguments.now) _ _ _ _ _ spelled c.in_err-only_word.ensures)

pub returns-in_err-hex : goal.returns-in_err-hex
returns-in_err-hex c =
    let spelled : words c.args.arguments.now ≡ c.in_ok-threshold.threshold.now ∷ c.in_ok-count.count.now ∷ c.in_ok-identifier.identifier.now ∷ words c.in_ok-identifier.arguments.now =
    cc (c.in_ok-threshold.ensures.0, c.in_ok-count.ensures.0, c.in_ok-identifier.ensures.0) in
    rw c.from_residual-in_err-hex.ensures (split-no-hex (words c.args.arguments.now) _ _ _ _ spelled c.in_err-hex.ensures)

pub returns : goal.returns
returns c =
    let spelled : words c.args.arguments.now
    ≡ c.in_ok-threshold.threshold.now ∷ c.in_ok-count.count.now ∷ c.in_ok-identifier.identifier.now ∷ c.in_ok-hex.hex.now ∷ c.in_ok-only_word.field-0.now ∷ [] =
    cc (c.in_ok-threshold.ensures.0, c.in_ok-count.ensures.0, c.in_ok-identifier.ensures.0, c.in_ok-hex.ensures.0, c.in_ok-only_word.ensures.0) in
    split-words (words c.args.arguments.now) _ _ _ _ _ spelled c.in_ok-threshold.ensures.1 c.in_ok-count.ensures.1 c.in_ok-identifier.ensures.1 c.in_ok-hex.ensures.1 c.in_ok-only_word.ensures.1
