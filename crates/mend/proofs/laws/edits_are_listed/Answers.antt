use Rattle.mend.proofs.OneAnswer.{edits_listed, none_listed}
use Rattle.mend.proofs.laws.edits_are_listed.Goals as goal

pub returns-clause-all : goal.returns-clause-all
returns-clause-all c = λ code text said g answer. edits_listed code text said g answer

pub returns-clause-none : goal.returns-clause-none
returns-clause-none c = λ code text said g none answer. none_listed code text said g none answer
