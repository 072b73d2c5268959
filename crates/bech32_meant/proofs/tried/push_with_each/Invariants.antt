use Rattle.std.specs.Prelude.{map, string_bytes}
use Rattle.std.proofs.Common.{take}
use Rattle.bech32_hrp.specs.HrpBytes.{hrp_bytes}
use Rattle.bech32_meant.specs.Added.{AddsAll, AddsFrame, with_first_read}
use Rattle.bech32_meant.proofs.tried.push_with_each.Given as goal

abbrev pub invariant-loop-i : goal.invariant-loop-i
invariant-loop-i g l =
    AddsAll (AddsFrame (hrp_bytes l.asked.hrp.now) l.asked.slips l.errors) (map (λ s. (string_bytes s.text, s.slips)) l.initial.found.items)
    (map (with_first_read l.frame) (take l.i l.characters))
    (map (λ s. (string_bytes s.text, s.slips)) l.found.items)
