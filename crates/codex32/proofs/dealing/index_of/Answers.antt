use Rattle.codex32.proofs.SplitIndices.{of_alphabet}
use Rattle.codex32.proofs.dealing.index_of.Goals as goal

pub from_char_unchecked-requires : goal.from_char_unchecked-requires
from_char_unchecked-requires c = of_alphabet c.args.j c.requires
