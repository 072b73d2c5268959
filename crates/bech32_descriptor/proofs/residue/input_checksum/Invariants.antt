use Rattle.std.proofs.Common.{◌≡◌, ℕ, List, drop, map}
use Rattle.bech32_gf.specs.declared.gf32.Fe32.{Fe32 as Element}
use Rattle.bech32_poly.specs.Polynomial.{appended}
use Rattle.bech32_checksum.specs.Code.{IsResidueOf}
use Rattle.bech32_descriptor.specs.Code.{descriptor}
use Rattle.bech32_descriptor.specs.Descriptor.{checksum_symbol}
use Rattle.bech32_descriptor.proofs.residue.input_checksum.Given as goal

abbrev pub invariant-loop-b : goal.invariant-loop-b
invariant-loop-b l =
    (p : List Element) → IsResidueOf (λ (x : ℕ). x) descriptor l.initial.engine p
    → (q : List Element) × (appended q (map checksum_symbol (drop l.b-index l.checksum)) ≡ appended p (map checksum_symbol l.checksum))
    × IsResidueOf (λ (x : ℕ). x) descriptor l.engine q
