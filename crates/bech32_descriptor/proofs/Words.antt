-- Packed remainders of polynomials.
use Rattle.std.proofs.Common.{◌≡◌, ◌<◌, ◌*◌, ◌^◌, ℕ, zero, suc, bit_xor, List, sym, ap, subst, ◌∙◌, refl, arith}
use Rattle.std.proofs.lemmas.Nat.{xor_lt}
use Rattle.bech32_gf.specs.Fe32 as fe32
use Rattle.bech32_gf.specs.Fe32.{ops}
use Rattle.bech32_gf.specs.declared.gf32.Fe32.{Fe32}
use Rattle.bech32_gf.specs.laws.Fe32Laws.{is_field}
use Rattle.bech32_poly.proofs.Lists.{same_cons}
use Rattle.bech32_poly.proofs.Remainder.{remainder_exists, remainder_of-add, remainder_unique}
use Rattle.bech32_poly.specs.Division.{remainder_of}
use Rattle.bech32_poly.specs.Polynomial.{add}
use Rattle.bech32_poly.specs.Remainder.{IsRemainder}
use Rattle.bech32_checksum.specs.Code.{Code}
use Rattle.bech32_checksum.specs.Packed.{digit_of, digits, tabulate}
use Rattle.bech32_checksum.specs.laws.PackedLaws.{xor_digits}
use Rattle.bech32_checksum.proofs.DigitRows.{digits-injective}
use Rattle.bech32_descriptor.specs.Code.{descriptor}
use Rattle.bech32_descriptor.specs.Words.{IsWordOfSymbols}
use Rattle.bech32_descriptor.specs.laws.CodeLaws.{descriptor_is_packed}

pub target_is : descriptor.target ≡ digits 8 1
target_is = ap (λ (k : Code). k.target) descriptor_is_packed

-- what a polynomial leaves is the digits of its word
pub word_digits : (w : ℕ) (p : List Fe32) → IsWordOfSymbols w p → digits 8 w ≡ remainder_of ops descriptor.generator p
word_digits w p h = remainder_unique is_field descriptor.generator p (digits 8 w) h.residue

-- a polynomial has one word
-- which is 1 where the polynomial leaves the target
pub leaves_target : (w : ℕ) (p : List Fe32) → IsWordOfSymbols w p → w ≡ 1 → IsRemainder ops descriptor.generator p descriptor.target
leaves_target w p h e = subst (IsRemainder ops descriptor.generator p) (ap (digits 8) e ∙ sym target_is) h.residue

pub target_alone : (w : ℕ) (p : List Fe32) → IsWordOfSymbols w p → IsRemainder ops descriptor.generator p descriptor.target → w ≡ 1
target_alone w p h is =
    let low : 1 < 2 ^ (5 * 8) = omega arith in
    digits-injective 8 w 1 h.clear low
    (word_digits w p h ∙ sym (remainder_unique is_field descriptor.generator p descriptor.target is) ∙ target_is)

add-tabulate : (c : ℕ) (f g h : ℕ → Fe32) → ((n : ℕ) → h n ≡ fe32.add (f n) (g n)) → add ops (tabulate c f) (tabulate c g) ≡ tabulate c h
add-tabulate zero f g h each = refl
add-tabulate (suc c) f g h each =
    same_cons _ _ _ _ (sym (each 0)) (add-tabulate c (λ i. f (suc i)) (λ i. g (suc i)) (λ i. h (suc i)) (λ n. each (suc n)))

-- the word of a sum
pub word_sum : (x y : ℕ) (p q : List Fe32) → IsWordOfSymbols x p → IsWordOfSymbols y q → IsWordOfSymbols (bit_xor x y) (add ops p q)
word_sum x y p q a b =
    let low = descriptor.generator in
    let same : remainder_of ops low (add ops p q) ≡ digits 8 (bit_xor x y) =
    remainder_of-add is_field low p q
    ∙ (λ i. add ops (sym (word_digits x p a) i) (sym (word_digits y q b) i))
    ∙ add-tabulate 8 (digit_of x) (digit_of y) (digit_of (bit_xor x y)) (xor_digits x y (bit_xor x y) refl) in
    record {
      residue = subst (IsRemainder ops low (add ops p q)) same (remainder_exists is_field low (add ops p q));
      clear = xor_lt (5 * 8) x y a.clear b.clear;
    }
