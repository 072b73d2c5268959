use Rattle.std.proofs.Common.{rules}
use Rattle.bech32_descriptor.proofs.Printed.{printed}
use Rattle.bech32_descriptor.proofs.checks.is_character.Goals as goal

pub returns : goal.returns
returns c = printed c.args.byte (search rules)
