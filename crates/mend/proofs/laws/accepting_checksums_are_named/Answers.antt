use Rattle.mend.proofs.OneAnswer.{named_bech32, named_bech32m}
use Rattle.mend.proofs.laws.accepting_checksums_are_named.Goals as goal

pub returns-clause-bech32m : goal.returns-clause-bech32m
returns-clause-bech32m c = named_bech32m

pub returns-clause-bech32 : goal.returns-clause-bech32
returns-clause-bech32 c = named_bech32
