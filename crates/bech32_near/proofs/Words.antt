-- Packed remainders of polynomials.
use Rattle.std.proofs.Common.{◌≡◌, ◌<◌, ◌*◌, ◌^◌, ℕ, zero, suc, bit_xor, List, length, sym, subst, ◌∙◌, refl}
use Rattle.std.proofs.lemmas.Nat.{xor_lt}
use Rattle.bech32_gf.specs.Fe32 as fe32
use Rattle.bech32_gf.specs.Fe32.{ops}
use Rattle.bech32_gf.specs.declared.gf32.Fe32.{Fe32}
use Rattle.bech32_gf.specs.laws.Fe32Laws.{is_field}
use Rattle.bech32_poly.proofs.Lists.{same_cons}
use Rattle.bech32_poly.proofs.Remainder.{remainder_exists, remainder_of-add, remainder_unique}
use Rattle.bech32_poly.specs.Division.{remainder_of}
use Rattle.bech32_poly.specs.Polynomial.{add}
use Rattle.bech32_poly.specs.Remainder.{IsRemainder}
use Rattle.bech32_checksum.specs.Code.{Code}
use Rattle.bech32_checksum.specs.Packed.{digit_of, digits, tabulate}
use Rattle.bech32_near.specs.edits.Walks.{IsWordOf}

add-tabulate : (c : ℕ) (f g h : ℕ → Fe32) → ((n : ℕ) → h n ≡ fe32.add (f n) (g n)) → add ops (tabulate c f) (tabulate c g) ≡ tabulate c h
add-tabulate zero f g h each = refl
add-tabulate (suc c) f g h each =
    same_cons _ _ _ _ (sym (each 0)) (add-tabulate c (λ i. f (suc i)) (λ i. g (suc i)) (λ i. h (suc i)) (λ n. each (suc n)))

module _ {R : Type 0} (number : R → ℕ) (code : Code) where
  -- the remainder of a sum
  pub word_sum : (x y r : R) (p q : List Fe32)
      → ((n : ℕ) → digit_of (number r) n ≡ fe32.add (digit_of (number x) n) (digit_of (number y) n))
      → number r ≡ bit_xor (number x) (number y)
      → IsWordOf number code x p → IsWordOf number code y q → IsWordOf number code r (add ops p q)
  word_sum x y r p q each sum a b =
      let low = code.generator in
      let d : ℕ = length low in
      let same : remainder_of ops low (add ops p q) ≡ digits d (number r) =
      remainder_of-add is_field low p q
      ∙ (λ i. add ops (sym (remainder_unique is_field low p (digits d (number x)) a.residue) i) (sym (remainder_unique is_field low q (digits d (number y)) b.residue) i))
      ∙ add-tabulate d (digit_of (number x)) (digit_of (number y)) (digit_of (number r)) each in
      record {
        residue = subst (IsRemainder ops low (add ops p q)) same (remainder_exists is_field low (add ops p q));
        clear = subst (λ n. n < 2 ^ (5 * d)) (sym sum) (xor_lt (5 * d) (number x) (number y) a.clear b.clear);
      }
