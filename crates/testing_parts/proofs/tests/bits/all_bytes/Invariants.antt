use Rattle.std.specs.Iterator.{IsFinite, size}
use Rattle.bech32_bits.specs.FesToBytes.{bytes_can, bytes_left}
use Rattle.testing_parts.proofs.tests.bits.all_bytes.Given as goal

abbrev pub invariant-loop-byte : goal.invariant-loop-byte
invariant-loop-byte g l = record {
  can : bytes_can g.I.Iterator.can_next l.bytes;
  finite : IsFinite (bytes_left g.I.Iterator.remaining l.bytes);
}

abbrev pub decreases-loop-byte : goal.decreases-loop-byte
decreases-loop-byte g l = size (bytes_left g.I.Iterator.remaining l.bytes)
