use Rattle.c32_replies.proofs.OneAnswer.{read}
use Rattle.c32_replies.proofs.laws.shares_are_read.Goals as goal

pub returns : goal.returns
returns c = λ text said payload t i x is few answer. read text said payload t i x is few answer
