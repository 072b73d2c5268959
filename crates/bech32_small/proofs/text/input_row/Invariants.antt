use Rattle.std.proofs.Common.{ℕ, List, take, reverse}
use Rattle.bech32_gf.specs.declared.gf32.Fe32.{Fe32}
use Rattle.bech32_poly.specs.Polynomial.{appended}
use Rattle.bech32_checksum.specs.Code.{IsResidueOf, bech32m}
use Rattle.bech32_checksum.specs.Packed.{digits}
use Rattle.bech32_small.proofs.text.input_row.Given as goal

abbrev pub invariant-loop-i : goal.invariant-loop-i
invariant-loop-i l =
    (p : List Fe32) → IsResidueOf (λ (n : ℕ). n) bech32m l.initial.engine p
    → IsResidueOf (λ (n : ℕ). n) bech32m l.engine (appended p (take l.i (reverse (digits 6 l.fn.row))))
