use Rattle.std.proofs.Common.{ap, arith}
use Rattle.bech32_gf.specs.declared.gf32.Fe32.{Fe32}
use Rattle.bech32_checksum.specs.Code.{bech32, bech32m}
use Rattle.bech32_detect.proofs.InARow.{bursts}
use Rattle.bech32_detect.proofs.bursts.bursts_are_detected.Goals as goal

pub returns-clause-code : goal.returns-clause-code
returns-clause-code c = bursts

pub returns-clause-bech32 : goal.returns-clause-bech32
returns-clause-bech32 c = bursts bech32 (λ e. absurd (omega (arith, ap (λ (x : Fe32). x.value) e)))

pub returns-clause-bech32m : goal.returns-clause-bech32m
returns-clause-bech32m c = bursts bech32m (λ e. absurd (omega (arith, ap (λ (x : Fe32). x.value) e)))
