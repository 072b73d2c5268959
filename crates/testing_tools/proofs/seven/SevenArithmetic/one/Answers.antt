use Rattle.std.proofs.Common.{refl}
use Rattle.testing_tools.specs.Seven.{path}
use Rattle.testing_tools.proofs.seven.SevenArithmetic.one.Goals as goal

pub returns : goal.returns
returns c = path _ _ refl
