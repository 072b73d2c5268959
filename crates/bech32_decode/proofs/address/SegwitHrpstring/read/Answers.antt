use Rattle.std.proofs.Common.{length, ap, arith}
use Rattle.bech32_decode.proofs.address.SegwitHrpstring.read.Goals as goal

pub short_address-requires : goal.short_address-requires
short_address-requires c = let text = c.in_ok-reading.ensures.value in omega (arith, ap length text, c.if-s-gt-MAX_STRING_LENGTH.false)
