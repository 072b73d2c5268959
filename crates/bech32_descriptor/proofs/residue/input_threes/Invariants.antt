use Rattle.std.proofs.Common.{◌≡◌, ℕ, List, length}
use Rattle.bech32_gf.specs.declared.gf32.Fe32.{Fe32 as Element}
use Rattle.bech32_poly.specs.Polynomial.{appended}
use Rattle.bech32_checksum.specs.Code.{IsResidueOf}
use Rattle.bech32_descriptor.specs.Code.{descriptor}
use Rattle.bech32_descriptor.specs.Descriptor.{symbols}
use Rattle.bech32_descriptor.proofs.residue.input_threes.Given as goal

abbrev pub decreases-loop-rest : goal.decreases-loop-rest
decreases-loop-rest l = length l.rest

abbrev pub invariant-loop-rest : goal.invariant-loop-rest
invariant-loop-rest l =
    (p : List Element) → IsResidueOf (λ (x : ℕ). x) descriptor l.initial.engine p
    → (q : List Element) × (appended q (symbols l.rest) ≡ appended p (symbols l.fn.payload))
    × IsResidueOf (λ (x : ℕ). x) descriptor l.engine q
