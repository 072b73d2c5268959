use Rattle.std.proofs.Common.{map, reverse, drop, ◌-◌}
use Rattle.bech32_encode.specs.Buffers.{PutsBehind}
use Rattle.bech32_checksum.specs.Encoded.{char_of_element}
use Rattle.bech32_checksum.specs.Packed.{digits}
use Rattle.bech32_small.proofs.text.put_row.Given as goal

abbrev pub invariant-loop-i : goal.invariant-loop-i
invariant-loop-i l =
    PutsBehind (map char_of_element (reverse (drop (6 - l.i) (digits 6 l.row)))) l.initial.buffer l.initial.count l.buffer l.count
