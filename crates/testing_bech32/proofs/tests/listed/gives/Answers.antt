use Rattle.testing_bech32.proofs.tests.listed.gives.Goals as goal

pub loop-error-preserved : goal.loop-error-preserved
loop-error-preserved g c = (tt, tt)
