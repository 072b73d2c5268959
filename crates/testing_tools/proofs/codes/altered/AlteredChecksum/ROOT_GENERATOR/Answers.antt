use Rattle.std.proofs.Common.{refl}
use Rattle.bech32_gf.specs.Fe32.{one, element}
use Rattle.bech32_gf_ext.specs.Fe32Ext.{path_of_values}
use Rattle.bech32_gf_ext.specs.Fe1024.{pair}
use Rattle.testing_tools.proofs.codes.altered.AlteredChecksum.ROOT_GENERATOR.Goals as goal

pub returns : goal.returns
returns g c = path_of_values _ (pair one (element 6)) refl
