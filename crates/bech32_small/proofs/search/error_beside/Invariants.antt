use Rattle.std.proofs.Common.{◌≢◌, ◌<◌, ℕ, [], ◌∷◌}
use Rattle.bech32_gf.specs.Fe32.{ops, value}
use Rattle.bech32_gf.specs.declared.gf32.Fe32.{Fe32}
use Rattle.bech32_bch.specs.Pattern.{HasRemainder}
use Rattle.bech32_checksum.specs.Code.{bech32m}
use Rattle.bech32_checksum.specs.Packed.{digits}
use Rattle.bech32_small.proofs.search.error_beside.Given as goal

-- no element that was tried does alone, and none with an error elsewhere: a second one at the erasure is a sum there
abbrev pub invariant-loop-v : goal.invariant-loop-v
invariant-loop-v l = record {
  alone : (v : Fe32) → value v < l.v → HasRemainder ops bech32m.generator (digits 6 l.row) ((l.erasure, v) ∷ []) → ⊥;
  beside : (v : Fe32) (i : ℕ) (w : Fe32) → value v < l.v → i < l.window → i ≢ l.erasure
      → HasRemainder ops bech32m.generator (digits 6 l.row) ((l.erasure, v) ∷ (i, w) ∷ []) → ⊥;
}
