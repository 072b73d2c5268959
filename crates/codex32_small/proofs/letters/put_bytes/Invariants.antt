use Rattle.std.proofs.Common.{◌≡◌, length, map, take}
use Rattle.bech32_checksum.specs.Encoded.{char_of_element}
use Rattle.codex32_small.proofs.letters.put_bytes.Given as goal

-- the characters of the elements that were given are written
abbrev pub invariant-loop-element : goal.invariant-loop-element
invariant-loop-element l = record {
  size : length l.target ≡ length l.fn.target;
  counted : l.count ≡ length l.yielded;
  so_far : take l.count l.target ≡ map char_of_element l.yielded;
}
