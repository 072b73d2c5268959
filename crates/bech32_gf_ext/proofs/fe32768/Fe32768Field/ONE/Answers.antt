use Rattle.std.proofs.Common.{refl}
use Rattle.bech32_gf_ext.specs.Fe32Ext.{path_of_values}
use Rattle.bech32_gf_ext.specs.Fe32768 as fe32768
use Rattle.bech32_gf_ext.proofs.fe32768.Fe32768Field.ONE.Goals as goal

pub returns : goal.returns
returns c = path_of_values _ fe32768.one refl
