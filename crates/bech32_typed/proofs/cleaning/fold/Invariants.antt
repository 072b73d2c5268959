use Rattle.std.proofs.Common.{◌≡◌, take}
use Rattle.std.specs.List.{flat_map}
use Rattle.bech32_typed.specs.Cleaned.{folded}
use Rattle.bech32_typed.proofs.cleaning.fold.Given as goal

abbrev pub invariant-loop-c : goal.invariant-loop-c
invariant-loop-c g l = l.read.items ≡ flat_map folded (take l.c-index l.text)
