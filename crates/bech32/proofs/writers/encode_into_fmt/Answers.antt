use Rattle.std.proofs.Common.{rules}
use Rattle.bech32.proofs.writers.encode_into_fmt.Goals as goal

pub returns-clause-ok : goal.returns-clause-ok
returns-clause-ok g c = (_, c.new-pieces.ensures, search rules)
