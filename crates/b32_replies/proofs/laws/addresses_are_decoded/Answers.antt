use Rattle.b32_replies.proofs.OneAnswer.{address_decoded}
use Rattle.b32_replies.proofs.laws.addresses_are_decoded.Goals as goal

pub returns : goal.returns
returns c = address_decoded
