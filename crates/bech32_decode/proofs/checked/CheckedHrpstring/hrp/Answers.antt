use Rattle.std.proofs.Common.{refl}
use Rattle.bech32_decode.proofs.checked.CheckedHrpstring.hrp.Goals as goal

pub returns : goal.returns
returns c = refl
