use Rattle.std.proofs.Common.{refl}
use Rattle.bech32_decode.proofs.address.SegwitHrpstring.witness_version.Goals as goal

pub returns : goal.returns
returns c = refl
