use Rattle.std.proofs.Common.{◌≡◌, take}
use Rattle.bech32_bits.specs.Bits.{byte_bits}
use Rattle.bech32_bits.proofs.plain.bits_of_bytes.Given as goal

abbrev pub invariant-loop-byte : goal.invariant-loop-byte
invariant-loop-byte l = l.all.items ≡ byte_bits (take l.byte-index l.bytes)
