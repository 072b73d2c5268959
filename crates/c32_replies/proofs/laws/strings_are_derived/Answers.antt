use Rattle.c32_replies.proofs.OneAnswer.{at_word, derived}
use Rattle.c32_replies.proofs.laws.strings_are_derived.Goals as goal

pub returns-clause-at : goal.returns-clause-at
returns-clause-at c = λ x texts shares said are whole consistent answer. derived x texts shares are whole consistent said answer

pub returns-clause-word : goal.returns-clause-word
returns-clause-word c = at_word
