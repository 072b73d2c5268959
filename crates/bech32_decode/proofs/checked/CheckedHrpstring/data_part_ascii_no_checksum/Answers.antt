use Rattle.std.proofs.Common.{refl}
use Rattle.bech32_decode.proofs.checked.CheckedHrpstring.data_part_ascii_no_checksum.Goals as goal

pub returns-clause-value : goal.returns-clause-value
returns-clause-value c = refl

pub returns-clause-of_alphabet : goal.returns-clause-of_alphabet
returns-clause-of_alphabet c = c.args.self.now.of_alphabet
