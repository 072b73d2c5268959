use Rattle.c32_replies.proofs.OneAnswer.{parsed}
use Rattle.c32_replies.proofs.laws.strings_are_parsed.Goals as goal

pub returns : goal.returns
returns c = parsed
