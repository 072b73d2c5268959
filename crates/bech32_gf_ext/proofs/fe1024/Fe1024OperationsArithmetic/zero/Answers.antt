use Rattle.std.proofs.Common.{refl}
use Rattle.bech32_gf_ext.specs.Fe32Ext.{path_of_values}
use Rattle.bech32_gf_ext.specs.Fe1024 as elements
use Rattle.bech32_gf_ext.proofs.fe1024.Fe1024OperationsArithmetic.zero.Goals as goal

pub returns : goal.returns
returns c = path_of_values _ elements.zero refl
