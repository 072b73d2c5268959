use Rattle.codex32_calls.proofs.Inputs.{share_index_fault-high}
use Rattle.codex32_calls.proofs.input.share_index_of.Goals as goal

pub returns-then-character-ge128 : goal.returns-then-character-ge128
returns-then-character-ge128 c = share_index_fault-high c.args.character c.if-character-ge128.true
