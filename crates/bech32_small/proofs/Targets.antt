-- What a code of the generator of Bech32 and a packed target says of texts and remainders.
use Rattle.std.proofs.Common.{◌≡◌, ◌∙◌, ℕ, List, length, reverse, ap, sym, subst}
use Rattle.bech32_bits.specs.Bits.{fes_count, to_fes}
use Rattle.bech32_bits.proofs.RoundTrip.{length-to_fes}
use Rattle.bech32_encode.specs.TextLength.{encoded_length_of, text_length_of}
use Rattle.bech32_gf.specs.Fe32.{ops}
use Rattle.bech32_gf.specs.declared.gf32.Fe32.{Fe32}
use Rattle.bech32_poly.specs.Polynomial.{appended}
use Rattle.bech32_poly.specs.Remainder.{IsRemainder}
use Rattle.bech32_checksum.specs.Code.{Code, IsResidueOf, bech32m}
use Rattle.bech32_checksum.specs.Packed.{digit_of, digits}
use Rattle.bech32_checksum.proofs.Digits.{length-tabulate}
use Rattle.bech32_small.specs.Target.{PacksTarget}

module _ (target : ℕ) (code : Code) (has : PacksTarget target code) where
  -- the length of a text by the code, as six characters of checksum give it
  pub length-by : (hrp bytes : List ℕ) (count : ℕ) → count ≡ text_length_of 6 hrp (fes_count 0 (length bytes))
      → count ≡ encoded_length_of code hrp (to_fes bytes)
  length-by hrp bytes count is =
      is ∙ ap (λ (n : ℕ). text_length_of 6 hrp n) (sym (length-to_fes bytes))
      ∙ ap (λ (d : ℕ). text_length_of d hrp (length (to_fes bytes))) (sym (ap (λ (l : List Fe32). length l) has.generator))

  pub target-length : length code.target ≡ length code.generator
  target-length =
      ap (λ (l : List Fe32). length l) has.target_is ∙ length-tabulate 6 (digit_of target)
      ∙ sym (ap (λ (l : List Fe32). length l) has.generator)

  -- the code's remainder of what ends in the elements of the target, as Bech32m has it
  pub remainder_by : (residue : ℕ) (p : List Fe32) → IsResidueOf (λ (n : ℕ). n) bech32m residue p
      → IsResidueOf (λ (n : ℕ). n) code residue p
  remainder_by residue p h =
      subst (λ (g : List Fe32). IsRemainder ops g p (digits (length g) residue)) (sym has.generator) h

  -- the same where it ends in the code's target
  pub residue_by : (residue : ℕ) (p : List Fe32)
      → IsResidueOf (λ (n : ℕ). n) bech32m residue (appended p (reverse (digits 6 target)))
      → IsResidueOf (λ (n : ℕ). n) code residue (appended p (reverse code.target))
  residue_by residue p h =
      subst (λ (t : List Fe32). IsResidueOf (λ (n : ℕ). n) code residue (appended p (reverse t))) (sym has.target_is)
      (remainder_by residue (appended p (reverse (digits 6 target))) h)
