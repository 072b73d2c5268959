use Rattle.std.proofs.Common.{◌≡◌, take}
use Rattle.bech32_bits.specs.Bits.{fe_bits}
use Rattle.bech32_bits.proofs.plain.bits_of_fes.Given as goal

abbrev pub invariant-loop-fe : goal.invariant-loop-fe
invariant-loop-fe l = l.all.items ≡ fe_bits (take l.fe-index l.fes)
