use Rattle.mend.proofs.OneAnswer.{no_fault}
use Rattle.mend.proofs.laws.accepted_texts_have_no_fault.Goals as goal

pub returns : goal.returns
returns c = no_fault
