use Rattle.std.specs.Prelude.{map, string_bytes}
use Rattle.std.specs.List.{flat_map}
use Rattle.std.proofs.Common.{take}
use Rattle.bech32_hrp.specs.HrpBytes.{hrp_bytes}
use Rattle.bech32_typed.specs.Tries.{tries_of_front}
use Rattle.bech32_meant.specs.Added.{AddsAll, AddsTry}
use Rattle.bech32_meant.proofs.tried.push_level.Given as goal

abbrev pub invariant-loop-i : goal.invariant-loop-i
invariant-loop-i g l =
    AddsAll (AddsTry (hrp_bytes l.asked.hrp.now) l.asked.slips) (map (λ s. (string_bytes s.text, s.slips)) l.initial.found.items)
    (flat_map (tries_of_front l.pass l.text l.asked.slips) (take l.i l.fronts))
    (map (λ s. (string_bytes s.text, s.slips)) l.found.items)
