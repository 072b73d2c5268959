use Rattle.testing_tools.specs.Seven as seven
use Rattle.testing_tools.proofs.seven.SevenArithmetic.is_zero.Goals as goal

pub returns : goal.returns
returns c = rw c.equals.ensures (rw c.zero.ensures (seven.eq_is_equal c.args.self seven.nothing))
