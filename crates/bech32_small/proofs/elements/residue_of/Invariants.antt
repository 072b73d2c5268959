use Rattle.std.proofs.Common.{ℕ, ◌∷◌, [], take}
use Rattle.bech32_gf.specs.Fe32 as fe32
use Rattle.bech32_gf.specs.Fe32.{elements_of}
use Rattle.bech32_poly.specs.Polynomial.{appended}
use Rattle.bech32_checksum.specs.Code.{IsResidueOf, bech32m}
use Rattle.bech32_checksum.specs.TextPolynomial.{hrp_elements}
use Rattle.bech32_small.proofs.elements.residue_of.Given as goal

abbrev pub invariant-loop-c : goal.invariant-loop-c
invariant-loop-c l =
    IsResidueOf (λ (n : ℕ). n) bech32m l.engine
    (appended (appended (fe32.one ∷ []) (hrp_elements l.part)) (elements_of (take l.c-index l.data_part)))
