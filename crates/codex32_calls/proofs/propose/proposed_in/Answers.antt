use Rattle.std.proofs.Common.{string_bytes}
use Rattle.codex32_calls.proofs.Sizes.{answer-fits, answer_long-fits}
use Rattle.codex32_calls.proofs.propose.proposed_in.Goals as goal

pub returns-in-Short-clause-value : goal.returns-in-Short-clause-value
returns-in-Short-clause-value g c = rw c.in-Short.is (answer-fits string_bytes c.args.text.now c.propose.result c.propose.ensures.refused c.propose.ensures.value)

pub returns-in-Long-clause-value : goal.returns-in-Long-clause-value
returns-in-Long-clause-value g c = rw c.in-Long.is (answer_long-fits string_bytes c.args.text.now c.propose_long.result c.propose_long.ensures.refused c.propose_long.ensures.value)
