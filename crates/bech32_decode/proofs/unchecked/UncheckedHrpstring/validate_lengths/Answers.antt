use Rattle.std.proofs.Common.{rules}
use Rattle.bech32_decode.proofs.unchecked.UncheckedHrpstring.validate_lengths.Goals as goal

pub returns : goal.returns
returns g c = search rules
