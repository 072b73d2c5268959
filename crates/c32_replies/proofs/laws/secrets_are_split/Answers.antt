use Rattle.c32_replies.proofs.SplitAnswer.{shares_said}
use Rattle.c32_replies.proofs.laws.secrets_are_split.Goals as goal

pub returns : goal.returns
returns c = λ asked count secret random said t i is fine answer. shares_said asked count secret random said t i is fine answer
