use Rattle.std.proofs.Common.{◌∙◌}
use Rattle.line_program.specs.Words.{words}
use Rattle.c32_replies.proofs.Words.{no-texts, one-empty}
use Rattle.c32_replies.proofs.command.all_words.Goals as goal

pub returns-in_err-only_word : goal.returns-in_err-only_word
returns-in_err-only_word c =
    rw c.from_residual.ensures (no-texts (words c.args.text.now) (c.words.invariant.read ∙ one-empty c.words.rest.now c.in_default.ensures c.in_err-only_word.ensures))
