use Rattle.std.proofs.Common.{refl}
use Rattle.bech32_gf.specs.Fe32.{element}
use Rattle.bech32_gf_ext.specs.Fe32Ext.{path_of_values}
use Rattle.bech32_gf_ext.specs.Fe1024.{pair}
use Rattle.blech32.proofs.Blech32Checksum.ROOT_GENERATOR.Goals as goal

pub returns : goal.returns
returns c = path_of_values _ (pair (element 30) (element 1)) refl
