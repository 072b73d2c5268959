use Rattle.std.proofs.Common.{refl}
use Rattle.bech32_gf.proofs.gf32.operators.Fe32Neg.neg.Goals as goal

pub returns : goal.returns
returns c = refl
