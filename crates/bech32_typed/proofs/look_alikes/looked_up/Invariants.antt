use Rattle.std.proofs.Common.{◌≡◌, drop}
use Rattle.bech32_typed.specs.Cleaned.{resembling}
use Rattle.bech32_typed.proofs.look_alikes.looked_up.Given as goal

abbrev pub invariant-loop-pair : goal.invariant-loop-pair
invariant-loop-pair l = resembling (drop l.pair-index l.table) l.c ≡ resembling l.table l.c
