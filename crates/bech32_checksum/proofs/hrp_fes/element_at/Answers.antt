use Rattle.std.proofs.Common.{refl, arith}
use Rattle.bech32_checksum.proofs.HrpPlaces.{high_at, zero_at, low_at, none_at}
use Rattle.bech32_checksum.proofs.hrp_fes.element_at.Goals as goal

pub returns-then-place-count : goal.returns-then-place-count
returns-then-place-count c =
    high_at c.args.bytes.now c.args.place c.from_low_bits.result c.if-place-count.true (rw c.to_ascii_lowercase.ensures.value at c.from_low_bits.ensures)

pub returns-then-place-count-2 : goal.returns-then-place-count-2
returns-then-place-count-2 c = zero_at c.args.bytes.now c.args.place _ c.if-place-count-2.true refl

pub returns-then-place-count-3 : goal.returns-then-place-count-3
returns-then-place-count-3 c =
    low_at c.args.bytes.now c.args.place c.from_low_bits-then-place-count-3.result (omega arith) c.if-place-count-3.true (rw c.to_ascii_lowercase-then-place-count-3.ensures.value at c.from_low_bits-then-place-count-3.ensures)

pub returns-else-place-count-3 : goal.returns-else-place-count-3
returns-else-place-count-3 c = none_at c.args.bytes.now c.args.place c.if-place-count-3.false
