use Rattle.std.proofs.Common.{◌<◌, [], ◌∷◌}
use Rattle.bech32_gf.specs.Fe32.{ops, value}
use Rattle.bech32_gf.specs.declared.gf32.Fe32.{Fe32}
use Rattle.bech32_bch.specs.Pattern.{HasRemainder}
use Rattle.bech32_checksum.specs.Code.{bech32m}
use Rattle.bech32_checksum.specs.Packed.{digits}
use Rattle.bech32_small.proofs.search.values_at_two.Given as goal

abbrev pub invariant-loop-v : goal.invariant-loop-v
invariant-loop-v l = (v w : Fe32) → value v < l.v → HasRemainder ops bech32m.generator (digits 6 l.fn.row) ((l.fn.one, v) ∷ (l.fn.two, w) ∷ []) → ⊥
