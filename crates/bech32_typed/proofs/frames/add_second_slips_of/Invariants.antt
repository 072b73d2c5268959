use Rattle.std.proofs.Common.{◌≡◌, map, true}
use Rattle.std.specs.List.{range_with_len}
use Rattle.bech32_typed.specs.Frames.{deeper, with_frames}
use Rattle.bech32_typed.specs.Slips.{after_slip}
use Rattle.bech32_typed.proofs.frames.add_second_slips_of.Given as goal

abbrev pub invariant-loop-i : goal.invariant-loop-i
invariant-loop-i g l = map (λ f. f.items) l.frames.keys
    ≡ with_frames (map (λ f. f.items) l.fn.frames.keys) (deeper true (map (after_slip l.slip l.text) (range_with_len 0 l.i)))
