use Rattle.codex32.proofs.OneString.{same_parts}
use Rattle.codex32.proofs.sets.strings_have_one_reading.Goals as goal

pub returns : goal.returns
returns c = same_parts
