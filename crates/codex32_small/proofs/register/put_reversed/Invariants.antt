use Rattle.std.proofs.Common.{◌≡◌, length, map, reverse, take}
use Rattle.bech32_checksum.specs.Encoded.{char_of_element}
use Rattle.codex32_small.proofs.register.put_reversed.Given as goal

-- the first ones are written
abbrev pub invariant-loop-i : goal.invariant-loop-i
invariant-loop-i l = record {
  size : length l.target ≡ length l.fn.target;
  so_far : take l.i l.target ≡ map char_of_element (take l.i (reverse l.elements));
}
