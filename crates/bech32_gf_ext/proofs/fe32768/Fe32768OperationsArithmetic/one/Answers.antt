use Rattle.std.proofs.Common.{refl}
use Rattle.bech32_gf_ext.specs.Fe32Ext.{path_of_values}
use Rattle.bech32_gf_ext.specs.Fe32768 as elements
use Rattle.bech32_gf_ext.proofs.fe32768.Fe32768OperationsArithmetic.one.Goals as goal

pub returns : goal.returns
returns c = path_of_values _ elements.one refl
