use Rattle.std.proofs.Common.{rules}
use Rattle.bech32_hrp.proofs.HrpPartialOrd.partial_cmp.Goals as goal

pub returns : goal.returns
returns c = search rules
