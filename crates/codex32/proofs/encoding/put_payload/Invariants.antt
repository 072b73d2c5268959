use Rattle.std.proofs.Common.{◌≡◌, length, take}
use Rattle.codex32.proofs.encoding.put_payload.Given as goal

-- the elements that were given are written
abbrev pub invariant-loop-element : goal.invariant-loop-element
invariant-loop-element l = record {
  size : length l.elements ≡ length l.fn.elements;
  counted : l.count ≡ length l.yielded;
  so_far : take l.count l.elements ≡ l.yielded;
}
