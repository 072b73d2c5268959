use Rattle.std.proofs.Common.{rules}
use Rattle.bech32_typed.proofs.Beginning.{begins-more}
use Rattle.bech32_typed.proofs.cleaning.begins.Goals as goal

pub loop-i-preserved : goal.loop-i-preserved
loop-i-preserved c = search (rules, begins-more)
