use Rattle.std.proofs.Common.{Some}
use Rattle.std.specs.List.{flat_map, range_with_len}
use Rattle.bech32_typed.specs.Tries.{IsTaken, tries_of_numbered}
use Rattle.bech32_typed.proofs.tries.take_readings.Given as goal

abbrev pub invariant-loop-i : goal.invariant-loop-i
invariant-loop-i g l =
    IsTaken l.initial.left (flat_map (tries_of_numbered l.slips l.part) (range_with_len 0 l.i)) (Some l.left)
