use Rattle.std.proofs.Common.{Some, take}
use Rattle.std.specs.List.{flat_map}
use Rattle.bech32_typed.specs.Tries.{IsTaken, tries_of_front}
use Rattle.bech32_typed.proofs.tries.take_level.Given as goal

abbrev pub invariant-loop-i : goal.invariant-loop-i
invariant-loop-i g l =
    IsTaken l.initial.left (flat_map (tries_of_front l.pass l.text l.slips) (take l.i l.fronts)) (Some l.left)
