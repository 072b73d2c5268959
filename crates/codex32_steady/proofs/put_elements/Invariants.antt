use Rattle.std.proofs.Common.{◌≡◌, length, take}
use Rattle.bech32_gf.specs.Fe32.{elements_of}
use Rattle.codex32_steady.proofs.put_elements.Given as goal

-- the first ones are written
abbrev pub invariant-loop-i : goal.invariant-loop-i
invariant-loop-i l = record {
  size : length l.elements ≡ length l.fn.elements;
  so_far : take l.i l.elements ≡ elements_of (take l.i l.characters);
}
