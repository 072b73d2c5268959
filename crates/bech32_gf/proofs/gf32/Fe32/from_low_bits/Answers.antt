use Rattle.std.proofs.Common.{refl}
use Rattle.bech32_gf.specs.Fe32.{path}
use Rattle.bech32_gf.proofs.gf32.Fe32.from_low_bits.Goals as goal

pub returns : goal.returns
returns c = path _ _ refl
