use Rattle.bech32_checksum.proofs.Beside.{apart-lt, value_there}
use Rattle.bech32_checksum.proofs.Syndromes.{logarithm-le}
use Rattle.bech32_checksum.proofs.checksums.beside.value_beside.Goals as goal

pub bounds-apart : goal.bounds-apart
bounds-apart c = apart-lt c.args.location c.args.other c.requires.location c.requires.other

pub overflow_sub-above : goal.overflow_sub-above
overflow_sub-above c = logarithm-le _ _ (apart-lt c.args.location c.args.other c.requires.location c.requires.other)

pub returns : goal.returns
returns c w e = value_there c.args.lower c.args.location c.args.other w c.requires.some c.requires.lower c.requires.location c.requires.other e
