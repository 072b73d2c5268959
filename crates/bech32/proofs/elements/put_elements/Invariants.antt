use Rattle.std.proofs.Common.{◌≡◌, ◌++◌, map, take, drop}
use Rattle.bech32_gf.specs.Fe32.{elements_of, value}
use Rattle.bech32.proofs.elements.put_elements.Given as goal

abbrev pub invariant-loop-place : goal.invariant-loop-place
invariant-loop-place l = l.buffer ≡ map value (elements_of (take l.place l.characters)) ++ drop l.place l.initial.buffer
