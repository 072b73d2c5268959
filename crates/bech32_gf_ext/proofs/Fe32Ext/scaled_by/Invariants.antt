use Rattle.std.proofs.Common.{◌≡◌, ◌++◌, map, take, drop}
use Rattle.bech32_gf.specs.Fe32 as fe32
use Rattle.bech32_gf.specs.declared.gf32.Fe32.{Fe32}
use Rattle.bech32_gf_ext.proofs.Fe32Ext.scaled_by.Given as goal

abbrev pub invariant-loop-i : goal.invariant-loop-i
invariant-loop-i g l = l.coefficients ≡ map (λ (b : Fe32). fe32.mul b l.factor) (take l.i l.initial.coefficients) ++ drop l.i l.initial.coefficients
