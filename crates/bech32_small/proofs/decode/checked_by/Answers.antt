use Rattle.std.proofs.Common.{refl, arith}
use Rattle.bech32.specs.Long.{long_bech32, long_bech32m}
use Rattle.bech32_checksum.specs.Code.{bech32, bech32m}
use Rattle.bech32_small.proofs.Codes.{bad_number_of_texts, bech32_target, bech32m_target, long_bech32_target, long_bech32m_target}
use Rattle.bech32_small.proofs.decode.checked_by.Goals as goal

pub returns-in-1 : goal.returns-in-1
returns-in-1 c = rw c.in-1.is (c.checked.ensures bech32 bech32_target refl)

pub returns-in-2 : goal.returns-in-2
returns-in-2 c = rw c.in-2.is (c.checked-in-2.ensures bech32m bech32m_target refl)

pub returns-in-3 : goal.returns-in-3
returns-in-3 c = rw c.in-3.is (c.checked-in-3.ensures long_bech32 long_bech32_target refl)

pub returns-in-4 : goal.returns-in-4
returns-in-4 c = rw c.in-4.is (c.checked-in-4.ensures long_bech32m long_bech32m_target refl)

pub returns-in_default : goal.returns-in_default
returns-in_default c =
    bad_number_of_texts c.args.checksum _ (λ e. omega (arith, e)) (λ e. omega (arith, e)) (λ e. omega (arith, e)) (λ e. omega (arith, e))
