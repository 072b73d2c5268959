use Rattle.std.specs.Prelude.{map, string_bytes}
use Rattle.std.specs.List.{flat_map, range_with_len}
use Rattle.std.proofs.Common.{◌≡◌}
use Rattle.bech32_hrp.specs.HrpBytes.{hrp_bytes}
use Rattle.bech32_typed.specs.Frames.{frames_before}
use Rattle.bech32_typed.specs.Tries.{tries_by}
use Rattle.bech32_meant.specs.Added.{AddsAll, AddsTry}
use Rattle.bech32_meant.proofs.tried.push_reading.Given as goal

abbrev pub invariant-loop-made : goal.invariant-loop-made
invariant-loop-made g l =
    (map (λ f. f.items) l.frames.keys ≡ frames_before l.made l.part)
    × AddsAll (AddsTry (hrp_bytes l.asked.hrp.now) l.asked.slips) (map (λ s. (string_bytes s.text, s.slips)) l.initial.found.items)
    (flat_map (tries_by l.part l.left) (range_with_len 0 l.made))
    (map (λ s. (string_bytes s.text, s.slips)) l.found.items)
