use Rattle.std.proofs.Common.{◌≡◌, map, take}
use Rattle.bech32_gf.specs.Fe32.{element}
use Rattle.codex32.proofs.dealing.put_low_bits.Given as goal

-- the elements of the first bytes are put
abbrev pub invariant-loop-i : goal.invariant-loop-i
invariant-loop-i l = take l.i l.elements ≡ map element (take l.i l.random)
