use Rattle.std.proofs.Common.{◌≡◌, ◌<◌, ◌++◌, drop}
use Rattle.bech32_typed.specs.Readings.{reading_at, twos}
use Rattle.bech32_typed.proofs.readings.reading.Given as goal

abbrev pub invariant-loop-c : goal.invariant-loop-c
invariant-loop-c g l = (l.read.items ++ reading_at (drop l.c-index l.text) l.i ≡ reading_at l.text l.i)
    × ((l.left ≡ twos (drop l.c-index l.text)) × (l.left < 64))
