use Rattle.std.proofs.Common.{◌≡◌, take}
use Rattle.bech32_gf.specs.Fe32 as fe32
use Rattle.bech32_gf.specs.Fe32.{elements_of}
use Rattle.bech32_poly.specs.Polynomial.{add, scale}
use Rattle.codex32_steady.proofs.shares.derive.add_multiple.Given as goal

abbrev pub invariant-loop-i : goal.invariant-loop-i
invariant-loop-i l = l.target ≡ add fe32.ops l.fn.target (scale fe32.ops l.factor (take l.i (elements_of l.characters)))
