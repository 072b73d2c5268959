use Rattle.std.proofs.Common.{◌≡◌, fold}
use Rattle.testing_tools.specs.Seven.{add, nothing}
use Rattle.testing_tools.proofs.seven.SevenSum.sum.Given as goal

abbrev pub invariant-loop-item : goal.invariant-loop-item
invariant-loop-item g l = l.total ≡ fold add nothing l.yielded
