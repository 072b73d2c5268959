use Rattle.std.proofs.Common.{◌≡◌, ◌+◌, ◌++◌, length, take, drop}
use Rattle.bech32_bits.specs.Bits.{to_bytes}
use Rattle.bech32_gf.specs.Fe32.{elements_of}
use Rattle.bech32_decode.specs.Readers.{bytes_to_come}
use Rattle.bech32_decode.proofs.data_bytes.put_rest.Given as goal

abbrev pub invariant-loop-byte : goal.invariant-loop-byte
invariant-loop-byte l = record {
  given : l.yielded ++ bytes_to_come l.byte-iterator ≡ to_bytes (elements_of l.fn.characters);
  counted : l.count ≡ l.fn.at + length l.yielded;
  put : l.buffer ≡ take l.fn.at l.initial.buffer ++ (l.yielded ++ drop l.count l.initial.buffer);
}
