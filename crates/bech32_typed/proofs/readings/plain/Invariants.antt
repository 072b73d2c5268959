use Rattle.std.proofs.Common.{◌≡◌, map, take}
use Rattle.bech32_typed.specs.Readings.{plain_look}
use Rattle.bech32_typed.proofs.readings.plain.Given as goal

abbrev pub invariant-loop-c : goal.invariant-loop-c
invariant-loop-c g l = l.read.items ≡ map plain_look (take l.c-index l.text)
