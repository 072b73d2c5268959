use Rattle.std.proofs.Common.{refl}
use Rattle.bech32_gf.specs.Fe32.{element}
use Rattle.bech32_gf_ext.specs.Fe32Ext.{path_of_values}
use Rattle.bech32_gf_ext.specs.Fe1024.{pair}
use Rattle.codex32.proofs.checksum.Codex32Checksum.ROOT_GENERATOR.Goals as goal

pub returns : goal.returns
returns c = path_of_values _ (pair (element 5) (element 5)) refl
