use Rattle.std.specs.Prelude.{map, string_bytes}
use Rattle.std.proofs.Common.{take}
use Rattle.bech32_hrp.specs.HrpBytes.{hrp_bytes}
use Rattle.bech32_meant.specs.Added.{AddsAll, AddsIf, IsInUseUnder}
use Rattle.bech32_meant.proofs.added.push_each.Given as goal

-- the first ones are added
abbrev pub invariant-loop-one : goal.invariant-loop-one
invariant-loop-one g l =
    AddsAll (AddsIf (IsInUseUnder (hrp_bytes l.hrp)) l.slips) (map (λ s. (string_bytes s.text, s.slips)) l.initial.found.items)
    (map g.T.AsText.text_of (take l.one-index l.texts))
    (map (λ s. (string_bytes s.text, s.slips)) l.found.items)
