use Rattle.std.proofs.Common.{rules}
use Rattle.bech32_checksum.proofs.hrp_fes.HrpFe32Iter.new.Goals as goal

pub returns : goal.returns
returns c = search rules
