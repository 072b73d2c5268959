use Rattle.std.proofs.Common.{map, reverse, drop, ◌-◌}
use Rattle.bech32_encode.specs.Buffers.{PutsBehind}
use Rattle.bech32_checksum.specs.Encoded.{char_of_element}
use Rattle.bech32_checksum.specs.Packed.{digits}
use Rattle.bech32_encode.proofs.buffer.put_row_each.Given as goal

abbrev pub invariant-loop-i : goal.invariant-loop-i
invariant-loop-i g l =
    PutsBehind (map char_of_element (reverse (drop (l.size - l.i) (digits l.size (g.R.PackedFe32.number l.row))))) l.initial.buffer l.initial.count l.buffer l.count
