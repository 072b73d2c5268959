use Rattle.std.proofs.Common.{refl}
use Rattle.bech32_gf_ext.specs.Fe32Ext.{path_of_values}
use Rattle.bech32_gf_ext.specs.Fe1024 as fe1024
use Rattle.bech32_gf_ext.proofs.fe1024.Fe1024ExtensionField.EXT_ELEM.Goals as goal

pub returns : goal.returns
returns c = path_of_values _ fe1024.ext_elem refl
