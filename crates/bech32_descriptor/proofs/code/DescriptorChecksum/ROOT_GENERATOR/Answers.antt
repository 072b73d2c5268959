use Rattle.std.proofs.Common.{refl}
use Rattle.bech32_gf.specs.Fe32.{element}
use Rattle.bech32_gf_ext.specs.Fe32Ext.{path_of_values}
use Rattle.bech32_gf_ext.specs.Fe32768.{triple}
use Rattle.bech32_descriptor.proofs.code.DescriptorChecksum.ROOT_GENERATOR.Goals as goal

pub returns : goal.returns
returns c = path_of_values _ (triple (element 11) (element 8) (element 15)) refl
