use Rattle.codex32_calls.proofs.Letters.{IsUtf8-from_codex32}
use Rattle.codex32_calls.proofs.parse.parts_of.Goals as goal

pub returns-in_err-text_of-clause-accepts : goal.returns-in_err-text_of-clause-accepts
returns-in_err-text_of-clause-accepts c is = absurd (c.in_err-text_of.ensures.1 (IsUtf8-from_codex32 c.args.bytes.now is))
