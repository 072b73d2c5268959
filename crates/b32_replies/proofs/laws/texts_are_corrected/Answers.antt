use Rattle.b32_replies.proofs.OneAnswer.{at_locations, fine, lacks, mends}
use Rattle.b32_replies.proofs.laws.texts_are_corrected.Goals as goal

pub returns-clause-fine : goal.returns-clause-fine
returns-clause-fine c = fine

pub returns-clause-mended : goal.returns-clause-mended
returns-clause-mended c = λ code text given said listing is answer. mends code text given said listing is answer

pub returns-clause-none : goal.returns-clause-none
returns-clause-none c = lacks

pub returns-clause-at : goal.returns-clause-at
returns-clause-at c = at_locations
