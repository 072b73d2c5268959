use Rattle.std.proofs.Common.{◌≡◌, Some, map}
use Rattle.std.specs.List.{flat_map, range_with_len}
use Rattle.bech32_typed.specs.Frames.{frames_before}
use Rattle.bech32_typed.specs.Tries.{IsTaken, tries_by}
use Rattle.bech32_typed.proofs.tries.take_reading.Given as goal

abbrev pub invariant-loop-made : goal.invariant-loop-made
invariant-loop-made g l =
    (map (λ f. f.items) l.frames.keys ≡ frames_before l.made l.part)
    × IsTaken l.initial.left (flat_map (tries_by l.part l.slips) (range_with_len 0 l.made)) (Some l.left)
