use Rattle.std.proofs.Common.{ap, refl, replicate}
use Rattle.bech32_gf.specs.Fe32 as fe32
use Rattle.bech32_gf_ext.proofs.Fe32ExtDefault.default.Goals as goal

pub returns : goal.returns
returns g c = ap (replicate g.row.DEG) (fe32.path _ fe32.zero refl)
