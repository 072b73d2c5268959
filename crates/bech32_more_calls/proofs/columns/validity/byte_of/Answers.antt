use Rattle.std.proofs.Common.{arith}
use Rattle.bech32_more_calls.proofs.Bits.{bits-few}
use Rattle.bech32_more_calls.proofs.columns.validity.byte_of.Goals as goal

pub overflow_mul-byte : goal.overflow_mul-byte
overflow_mul-byte c = omega (arith, bits-few c.args.numbers.now c.loop-i.i c.loop-i-test.true c.requires, c.loop-i.invariant.bits)

pub overflow_add-byte : goal.overflow_add-byte
overflow_add-byte c = omega (arith, bits-few c.args.numbers.now c.loop-i.i c.loop-i-test.true c.requires, c.loop-i.invariant.bits, c.accepted_bit.ensures.few)
