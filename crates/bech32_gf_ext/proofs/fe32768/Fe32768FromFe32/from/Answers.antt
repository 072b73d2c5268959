use Rattle.std.proofs.Common.{◌∙◌, refl}
use Rattle.bech32_gf.specs.Fe32 as fe32
use Rattle.bech32_gf_ext.specs.laws.Fe32768Laws.{same_parts}
use Rattle.bech32_gf_ext.proofs.fe32768.Fe32768FromFe32.from.Goals as goal

pub returns : goal.returns
returns c = c.from_parts.ensures ∙ same_parts refl (fe32.path _ fe32.zero refl) (fe32.path _ fe32.zero refl)
