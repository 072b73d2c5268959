use Rattle.std.specs.Prelude.{map, string_bytes}
use Rattle.std.proofs.Common.{take}
use Rattle.bech32_poly.specs.Distinct.{IsAmong}
use Rattle.bech32_meant.proofs.added.is_found.Given as goal

-- it is none of the first
abbrev pub invariant-loop-one : goal.invariant-loop-one
invariant-loop-one g l = IsAmong l.text (map (λ s. string_bytes s.text) (take l.one-index l.found)) → ⊥
