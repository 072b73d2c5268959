use Rattle.std.proofs.Common.{refl, arith}
use Rattle.bech32.specs.Long.{long_bech32, long_bech32m}
use Rattle.bech32_checksum.specs.Code.{bech32, bech32m}
use Rattle.bech32_small.proofs.Codes.{bad_number_of_texts, bech32_target, bech32m_target, long_bech32_target, long_bech32m_target}
use Rattle.bech32_small.proofs.encode.encoded_by.Goals as goal

pub returns-in-1-clause-value : goal.returns-in-1-clause-value
returns-in-1-clause-value c = rw c.in-1.is (c.encoded.ensures.value bech32 bech32_target refl)

pub returns-in-1-clause-refused : goal.returns-in-1-clause-refused
returns-in-1-clause-refused c = rw c.in-1.is (c.encoded.ensures.refused bech32 bech32_target refl)

pub returns-in-2-clause-value : goal.returns-in-2-clause-value
returns-in-2-clause-value c = rw c.in-2.is (c.encoded-in-2.ensures.value bech32m bech32m_target refl)

pub returns-in-2-clause-refused : goal.returns-in-2-clause-refused
returns-in-2-clause-refused c = rw c.in-2.is (c.encoded-in-2.ensures.refused bech32m bech32m_target refl)

pub returns-in-3-clause-value : goal.returns-in-3-clause-value
returns-in-3-clause-value c = rw c.in-3.is (c.encoded-in-3.ensures.value long_bech32 long_bech32_target refl)

pub returns-in-3-clause-refused : goal.returns-in-3-clause-refused
returns-in-3-clause-refused c = rw c.in-3.is (c.encoded-in-3.ensures.refused long_bech32 long_bech32_target refl)

pub returns-in-4-clause-value : goal.returns-in-4-clause-value
returns-in-4-clause-value c = rw c.in-4.is (c.encoded-in-4.ensures.value long_bech32m long_bech32m_target refl)

pub returns-in-4-clause-refused : goal.returns-in-4-clause-refused
returns-in-4-clause-refused c = rw c.in-4.is (c.encoded-in-4.ensures.refused long_bech32m long_bech32m_target refl)

pub returns-in_default-clause-refused : goal.returns-in_default-clause-refused
returns-in_default-clause-refused c =
    bad_number_of_texts c.args.checksum _ (λ e. omega (arith, e)) (λ e. omega (arith, e)) (λ e. omega (arith, e)) (λ e. omega (arith, e))
