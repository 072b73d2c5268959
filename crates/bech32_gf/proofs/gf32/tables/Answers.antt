use Rattle.std.proofs.Common.{refl}
use Rattle.bech32_gf.proofs.Logarithms.{POWERS-step, LOG-POWERS, POWERS-LOG}
use Rattle.bech32_gf.proofs.gf32.tables.Goals as goal

pub returns : goal.returns
returns c = record { begin = refl; step = POWERS-step; logarithm = LOG-POWERS; power = POWERS-LOG }
