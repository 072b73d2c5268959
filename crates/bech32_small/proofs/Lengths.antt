-- What the lengths and the remainder of a text that was read by Bech32m say of it by another target.
use Rattle.std.proofs.Common.{◌≡◌, ◌≢◌, ◌∙◌, ◌<◌, ◌^◌, ℕ, zero, suc, List, bit_xor, length, refl, ap, sym, subst, arith}
use Rattle.std.specs.Int.Bits.{xor_assoc, xor_self, xor_zero_r}
use Rattle.bech32_gf.specs.Fe32.{elements_of, ops}
use Rattle.bech32_gf.specs.laws.Fe32Laws.{is_field}
use Rattle.bech32_gf.specs.declared.gf32.Fe32.{Fe32}
use Rattle.bech32_poly.specs.Polynomial.{IsSamePolynomial, add, coefficient}
use Rattle.bech32_poly.specs.Remainder.{IsRemainder}
use Rattle.bech32_poly.proofs.Lists.{same_cons}
use Rattle.bech32_poly.proofs.Remainder.{remainder_exists}
use Rattle.bech32_checksum.specs.Code.{Code, bech32m}
use Rattle.bech32_checksum.specs.Packed.{digit_of, digits, tabulate}
use Rattle.bech32_checksum.specs.laws.PackedLaws.{xor_digits}
use Rattle.bech32_checksum.specs.TextPolynomial.{text_polynomial}
use Rattle.bech32_checksum.proofs.DigitRows.{digits-injective}
use Rattle.bech32_decode.specs.Reading.{IsReading}
use Rattle.bech32_decode.specs.Refusals.{HasLengths, IsChecksumRefusal}
use Rattle.bech32_correction.specs.Mistyped.{IsRefusedFor}
use Rattle.bech32_refusals.specs.declared.error.ChecksumError.{ChecksumError}
use Rattle.bech32_refusals.specs.declared.error.ChecksumError.TheVariants.{CodeLength, InvalidLength, InvalidResidue}
use Rattle.bech32_small.specs.Target.{PacksTarget}

-- two numbers that differ in no bit are the same
pub same-from_xor : (a b : ℕ) → bit_xor a b ≡ 0 → a ≡ b
same-from_xor a b none =
    sym (xor_zero_r a) ∙ ap (bit_xor a) (sym (xor_self b)) ∙ sym (xor_assoc a b b) ∙ ap (λ (x : ℕ). bit_xor x b) none
    ∙ zero_xor
  where
    zero_xor : bit_xor 0 b ≡ b
    zero_xor = refl

pub none-from_same : (a b : ℕ) → a ≡ b → bit_xor a b ≡ 0
none-from_same a b e = ap (λ (x : ℕ). bit_xor x b) e ∙ xor_self b

-- the digits of the bits in which two numbers differ are the sums of their digits
pub xor-sum : (a b : ℕ) → IsSamePolynomial ops (digits 6 (bit_xor a b)) (add ops (digits 6 a) (digits 6 b))
xor-sum a b place =
    ap (λ (l : List Fe32). coefficient ops l place) (same_sums 6 (digit_of (bit_xor a b)) (digit_of a) (digit_of b) (xor_digits a b (bit_xor a b) refl))
  where
    same_sums : (n : ℕ) (f g h : ℕ → Fe32) → ((i : ℕ) → f i ≡ ops.add (g i) (h i)) → tabulate n f ≡ add ops (tabulate n g) (tabulate n h)
    same_sums zero f g h is = refl
    same_sums (suc n) f g h is = same_cons _ _ _ _ (is 0) (same_sums n (λ i. f (suc i)) (λ i. g (suc i)) (λ i. h (suc i)) (λ i. is (suc i)))

module _ (target : ℕ) (code : Code) (has : PacksTarget target code) (most : code.code_length ≡ 1023) where
  six : length code.generator ≡ 6
  six = ap (λ (l : List Fe32). length l) has.generator

  pub lengths-by : (n k : ℕ) → HasLengths bech32m n k → HasLengths code n k
  lengths-by n k h = (omega (arith, h.0, most), omega (arith, h.1, six))

  lengths-back : (n k : ℕ) → HasLengths code n k → HasLengths bech32m n k
  lengths-back n k h = (omega (arith, h.0, most), omega (arith, h.1, six))

  pub refusal-by : (n : ℕ) (hrp data_part : List ℕ) (e : ChecksumError) → IsChecksumRefusal bech32m n hrp data_part e
      → (HasLengths bech32m n (length data_part) → ⊥)
      → IsChecksumRefusal code n hrp data_part e × (HasLengths code n (length data_part) → ⊥)
  refusal-by n hrp data_part (CodeLength e) r none = (
    (omega (arith, r.0, most), r.1 ∙ (λ i. record { encoded_length = n; code_length = sym most i })),
    λ h. none (lengths-back n (length data_part) h),
  )
  refusal-by n hrp data_part InvalidLength r none =
      ((omega (arith, r.0, most), omega (arith, r.1, six)), λ h. none (lengths-back n (length data_part) h))
  refusal-by n hrp data_part (InvalidResidue e) r none = absurd (none (r.0, r.1))

  module _ (text hrp data_part : List ℕ) (residue : ℕ) (reading : IsReading bech32m text hrp data_part residue) where
    -- the remainder that the text leaves
    pub left-by : IsRemainder ops code.generator (text_polynomial hrp (elements_of data_part)) (digits 6 residue)
    left-by =
        let p = text_polynomial hrp (elements_of data_part) in
        subst (λ (g : List Fe32). IsRemainder ops g p (digits 6 residue)) (sym has.generator)
        (subst (IsRemainder ops bech32m.generator p) (sym reading.leaves) (remainder_exists is_field bech32m.generator p))

    -- where it is the target, the checksum accepts the text
    pub target-by : residue ≡ target → IsRemainder ops code.generator (text_polynomial hrp (elements_of data_part)) code.target
    target-by same =
        subst (IsRemainder ops code.generator (text_polynomial hrp (elements_of data_part)))
        (ap (digits 6) same ∙ sym has.target_is) left-by

    -- where it is not, the checksum refuses the text for the difference
    pub refused-by : target < 2 ^ 30 → residue ≢ target → HasLengths bech32m (length text) (length data_part)
        → IsSamePolynomial ops (digits 6 (bit_xor residue target)) (add ops (digits 6 residue) (digits 6 target))
        → IsRefusedFor code text hrp data_part (digits 6 (bit_xor residue target))
    refused-by small differ lengths sum =
        let here = lengths-by (length text) (length data_part) lengths in
        record {
          read = record {
            grammar = reading.grammar;
            text_length = here.0;
            data_length = here.1;
            remainder = digits 6 residue;
            is_remainder = left-by;
            residue_is = subst (λ (t : List Fe32). IsSamePolynomial ops (digits 6 (bit_xor residue target)) (add ops (digits 6 residue) t)) (sym has.target_is) sum;
          };
          not_target = λ same. differ (digits-injective 6 residue target reading.clear small (same ∙ has.target_is));
        }
