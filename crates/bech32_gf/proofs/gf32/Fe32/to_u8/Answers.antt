use Rattle.std.proofs.Common.{refl}
use Rattle.bech32_gf.proofs.gf32.Fe32.to_u8.Goals as goal

pub returns : goal.returns
returns c = refl
