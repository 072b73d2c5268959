use Rattle.std.specs.Prelude.{map, string_bytes}
use Rattle.std.proofs.Common.{take}
use Rattle.bech32_hrp.specs.HrpBytes.{hrp_bytes}
use Rattle.bech32_suggest.specs.Suggestions.{AddsEach}
use Rattle.bech32_suggest.proofs.kept.push_each.Given as goal

-- the first ones are added
abbrev pub invariant-loop-one : goal.invariant-loop-one
invariant-loop-one g l =
    AddsEach (hrp_bytes l.wanted.hrp.now) l.wanted.typed.now (map (λ s. (string_bytes s.text, (s.mending, s.place))) l.initial.found.items)
    (map g.T.AsText.text_of (take l.one-index l.texts))
    (map (λ s. (string_bytes s.text, (s.mending, s.place))) l.found.items)
