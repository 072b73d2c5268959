use Rattle.std.proofs.Common.{◌≢◌, ◌<◌, ℕ, List, [], ◌∷◌}
use Rattle.bech32_gf.specs.Fe32.{ops}
use Rattle.bech32_gf.specs.declared.gf32.Fe32.{Fe32}
use Rattle.bech32_poly.specs.Division.{zeros}
use Rattle.bech32_poly.specs.Polynomial.{appended}
use Rattle.bech32_bch.specs.Pattern.{HasRemainder}
use Rattle.bech32_checksum.specs.Code.{IsResidueOf, bech32m}
use Rattle.bech32_checksum.specs.Packed.{HasDigits, digits}
use Rattle.bech32_small.proofs.search.error_apart.Given as goal

-- the row is the first one by x to the power of the location
abbrev pub invariant-loop-location : goal.invariant-loop-location
invariant-loop-location l = record {
  clear : HasDigits 6 l.row;
  some : 0 < l.row;
  after : (p : List Fe32) → IsResidueOf (λ (n : ℕ). n) bech32m l.row p
      → IsResidueOf (λ (n : ℕ). n) bech32m l.fn.row (appended p (zeros ops l.location));
  before : (p : List Fe32) → IsResidueOf (λ (n : ℕ). n) bech32m l.fn.row (appended p (zeros ops l.location))
      → IsResidueOf (λ (n : ℕ). n) bech32m l.row p;
  none : (i : ℕ) (v : Fe32) → i < l.location → i ≢ l.fn.apart → HasRemainder ops bech32m.generator (digits 6 l.fn.row) ((i, v) ∷ []) → ⊥;
}
