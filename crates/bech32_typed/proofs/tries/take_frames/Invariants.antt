use Rattle.std.proofs.Common.{Some, map, take}
use Rattle.bech32_typed.specs.Tries.{IsTaken, with_errors}
use Rattle.bech32_typed.proofs.tries.take_frames.Given as goal

abbrev pub invariant-loop-frame : goal.invariant-loop-frame
invariant-loop-frame l =
    IsTaken l.initial.left (map (with_errors l.errors) (map (λ f. f.items) (take l.frame-index l.frames))) (Some l.left)
