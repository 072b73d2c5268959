use Rattle.b32_replies.proofs.OneAnswer.{address_encoded}
use Rattle.b32_replies.proofs.laws.addresses_are_encoded.Goals as goal

pub returns : goal.returns
returns c = address_encoded
