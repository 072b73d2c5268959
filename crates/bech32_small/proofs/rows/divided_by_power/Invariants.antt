use Rattle.std.proofs.Common.{ℕ, List}
use Rattle.bech32_gf.specs.Fe32.{ops}
use Rattle.bech32_gf.specs.declared.gf32.Fe32.{Fe32 as Element}
use Rattle.bech32_poly.specs.Division.{zeros}
use Rattle.bech32_poly.specs.Polynomial.{appended}
use Rattle.bech32_checksum.specs.Code.{IsResidueOf, bech32m}
use Rattle.bech32_checksum.specs.Packed.{HasDigits}
use Rattle.bech32_small.proofs.rows.divided_by_power.Given as goal

abbrev pub invariant-loop-more : goal.invariant-loop-more
invariant-loop-more l = record {
  clear : HasDigits 6 l.row;
  after : (p : List Element) → IsResidueOf (λ (n : ℕ). n) bech32m l.row p
      → IsResidueOf (λ (n : ℕ). n) bech32m l.fn.row (appended p (zeros ops l.more));
  before : (p : List Element) → IsResidueOf (λ (n : ℕ). n) bech32m l.fn.row (appended p (zeros ops l.more))
      → IsResidueOf (λ (n : ℕ). n) bech32m l.row p;
}
