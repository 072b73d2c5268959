use Rattle.std.proofs.Common.{rules}
use Rattle.bech32_refusals.proofs.error.InvalidResidueError.new.Goals as goal

pub returns-clause-actual : goal.returns-clause-actual
returns-clause-actual g c = search rules

pub returns-clause-target : goal.returns-clause-target
returns-clause-target g c = search rules
