use Rattle.c32_replies.proofs.OneAnswer.{encoded}
use Rattle.c32_replies.proofs.laws.strings_are_encoded.Goals as goal

pub returns : goal.returns
returns c = λ threshold identifier share_index hex bytes said digits fine counted answer. encoded threshold identifier share_index hex bytes said digits fine counted answer
