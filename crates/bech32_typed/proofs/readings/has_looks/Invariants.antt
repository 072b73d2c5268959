use Rattle.std.proofs.Common.{◌≡◌, drop}
use Rattle.bech32_typed.specs.Readings.{has_looks}
use Rattle.bech32_typed.proofs.readings.has_looks.Given as goal

abbrev pub invariant-loop-c : goal.invariant-loop-c
invariant-loop-c l = has_looks (drop l.c-index l.text) ≡ has_looks l.text
