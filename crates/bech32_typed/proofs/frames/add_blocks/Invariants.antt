use Rattle.std.proofs.Common.{◌≡◌, map}
use Rattle.std.specs.List.{filter, range_with_len}
use Rattle.bech32_typed.specs.Frames.{deeper, is_doubled, with_frames, without_block}
use Rattle.bech32_typed.proofs.frames.add_blocks.Given as goal

abbrev pub invariant-loop-i : goal.invariant-loop-i
invariant-loop-i g l = map (λ f. f.items) l.frames.keys
    ≡ with_frames (map (λ f. f.items) l.fn.frames.keys)
    (deeper l.is_deeper (map (without_block l.text l.size) (filter (is_doubled l.text l.size) (range_with_len 0 l.i))))
