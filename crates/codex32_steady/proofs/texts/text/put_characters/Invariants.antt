use Rattle.std.proofs.Common.{◌≡◌, ◌+◌, ◌++◌, length, map, take}
use Rattle.bech32_checksum.specs.Encoded.{char_of_element}
use Rattle.codex32_steady.proofs.texts.text.put_characters.Given as goal

-- the first ones are written
abbrev pub invariant-loop-i : goal.invariant-loop-i
invariant-loop-i l = record {
  size : length l.text ≡ length l.fn.text;
  so_far : take (3 + l.i) l.text ≡ take 3 l.fn.text ++ map char_of_element (take l.i l.elements);
}
