use Rattle.std.specs.Prelude.{map, string_bytes}
use Rattle.std.proofs.Common.{take}
use Rattle.bech32_hrp.specs.HrpBytes.{hrp_bytes}
use Rattle.bech32_typed.specs.Tries.{with_errors}
use Rattle.bech32_meant.specs.Added.{AddsAll, AddsTry}
use Rattle.bech32_meant.proofs.tried.push_frames.Given as goal

abbrev pub invariant-loop-frame : goal.invariant-loop-frame
invariant-loop-frame g l =
    AddsAll (AddsTry (hrp_bytes l.asked.hrp.now) l.asked.slips) (map (λ s. (string_bytes s.text, s.slips)) l.initial.found.items)
    (map (with_errors l.errors) (map (λ f. f.items) (take l.frame-index l.frames)))
    (map (λ s. (string_bytes s.text, s.slips)) l.found.items)
