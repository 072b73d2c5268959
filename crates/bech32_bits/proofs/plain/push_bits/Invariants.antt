use Rattle.std.proofs.Common.{◌≡◌, ◌++◌}
use Rattle.bech32_bits.specs.Bits.{bits}
use Rattle.bech32_bits.proofs.plain.push_bits.Given as goal

abbrev pub invariant-loop-place : goal.invariant-loop-place
invariant-loop-place l = l.out.items ++ bits l.place l.number ≡ l.initial.out.items ++ bits l.count l.number
