use Rattle.std.proofs.Common.{◌≡◌, ◌-◌, drop, length, map, reverse, take}
use Rattle.bech32_checksum.specs.Encoded.{char_of_element}
use Rattle.bech32_checksum.specs.Packed.{digits}
use Rattle.codex32_steady.proofs.texts.text.put_row.Given as goal

-- the first ones are written
abbrev pub invariant-loop-i : goal.invariant-loop-i
invariant-loop-i g l = record {
  size : length l.target ≡ length l.fn.target;
  so_far : take l.i l.target ≡ map char_of_element (reverse (drop (l.count - l.i) (digits l.count (g.R.PackedFe32.number l.row))));
}
