use Rattle.b32_replies.proofs.OneAnswer.{decoded}
use Rattle.b32_replies.proofs.laws.accepted_texts_are_decoded.Goals as goal

pub returns : goal.returns
returns c = decoded
