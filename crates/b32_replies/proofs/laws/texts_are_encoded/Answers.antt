use Rattle.b32_replies.proofs.OneAnswer.{encoded}
use Rattle.b32_replies.proofs.laws.texts_are_encoded.Goals as goal

pub returns : goal.returns
returns c = encoded
