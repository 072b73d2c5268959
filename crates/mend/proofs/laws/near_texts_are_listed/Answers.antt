use Rattle.mend.proofs.OneAnswer.{near_at, near_listed}
use Rattle.mend.proofs.laws.near_texts_are_listed.Goals as goal

pub returns-clause-all : goal.returns-clause-all
returns-clause-all c = λ code text hrp data_part given word said residue errors is read answer. near_listed code text hrp data_part given said residue read errors word is answer

pub returns-clause-at : goal.returns-clause-at
returns-clause-at c = near_at
