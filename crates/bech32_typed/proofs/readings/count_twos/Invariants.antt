use Rattle.std.proofs.Common.{◌≡◌, ◌≤◌, take}
use Rattle.bech32_typed.specs.Readings.{twos}
use Rattle.bech32_typed.proofs.readings.count_twos.Given as goal

abbrev pub invariant-loop-c : goal.invariant-loop-c
invariant-loop-c l = (l.count ≡ twos (take l.c-index l.text)) × (l.count ≤ l.c-index)
