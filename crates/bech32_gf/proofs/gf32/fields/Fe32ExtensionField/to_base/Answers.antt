use Rattle.std.proofs.Common.{refl}
use Rattle.bech32_gf.proofs.gf32.fields.Fe32ExtensionField.to_base.Goals as goal

pub returns : goal.returns
returns c = refl
