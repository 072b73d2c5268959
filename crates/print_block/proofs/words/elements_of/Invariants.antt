use Rattle.std.proofs.Common.{take}
use Rattle.print_block.specs.Words.{AreElementsOf}
use Rattle.print_block.proofs.words.elements_of.Given as goal

abbrev pub invariant-loop-character : goal.invariant-loop-character
invariant-loop-character l = AreElementsOf (take l.character-index l.word) l.elements.items
