use Rattle.std.proofs.Common.{refl, arith}
use Rattle.bech32_checksum.specs.Code.{bech32, bech32m}
use Rattle.bech32_small.proofs.Codes.{bech32_target, bech32m_target, no_code}
use Rattle.bech32_small.proofs.correct.target_of.Goals as goal

pub returns-in-1 : goal.returns-in-1
returns-in-1 c = rw c.in-1.is (record { code = bech32; code_is = refl; packs = bech32_target; length_is = refl; clear = omega arith })

pub returns-in-2 : goal.returns-in-2
returns-in-2 c = rw c.in-2.is (record { code = bech32m; code_is = refl; packs = bech32m_target; length_is = refl; clear = omega arith })

pub returns-in_default : goal.returns-in_default
returns-in_default c = no_code c.args.checksum (λ e. omega (arith, e)) (λ e. omega (arith, e))
