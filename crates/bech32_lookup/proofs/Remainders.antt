-- The remainder of a listed pattern as the engine computes it.
use Rattle.std.proofs.Common.{◌≡◌, ◌↔◌, ◌<◌, ◌+◌, ◌-◌, ◌*◌, ◌^◌, ℕ, suc, List, ◌∷◌, length, sym, ap, subst, ◌∙◌, arith}
use Rattle.bech32_gf.specs.Field.{Ops, IsField}
use Rattle.bech32_gf.specs.Fe32 as fe32
use Rattle.bech32_gf.specs.declared.gf32.Fe32.{Fe32}
use Rattle.bech32_gf.specs.laws.Fe32Laws.{is_field}
use Rattle.bech32_poly.specs.Division.{remainder_of}
use Rattle.bech32_poly.specs.Pattern.{pattern_polynomial, value_of_pattern_at}
use Rattle.bech32_poly.specs.Polynomial.{IsSamePolynomial, coefficient}
use Rattle.bech32_poly.specs.Remainder.{IsRemainder}
use Rattle.bech32_poly.proofs.Remainder.{remainder_exists, remainder_unique}
use Rattle.bech32_checksum.specs.Packed.{digit_of, digits}
use Rattle.bech32_checksum.proofs.DigitRows.{coefficient-digits}
use Rattle.bech32_bch.specs.Pattern.{HasRemainder}
use Rattle.bech32_bch.proofs.Patterns.{values_from}

-- one coefficient more
pub values_from-more : {F : Type 0} (f : Ops F) (e : List (ℕ × F)) (place n : ℕ) → 0 < place
    → value_of_pattern_at f e (place - 1) ∷ values_from f e place (n + 1) ≡ values_from f e (place - 1) (n + 1 + 1)
values_from-more f e place n pos =
    let s : place ≡ suc (place - 1) = omega arith in
    let more : suc (n + 1) ≡ n + 1 + 1 = omega arith in
    ap (λ k. value_of_pattern_at f e (place - 1) ∷ values_from f e k (n + 1)) s ∙ ap (values_from f e (place - 1)) more

-- polynomials of the same remainder
pub same_remainder : {F : Type 0} {f : Ops F} (fl : IsField f) (g p q r : List F) → remainder_of f g p ≡ remainder_of f g q → IsRemainder f g p r → IsRemainder f g q r
same_remainder {F} {f} fl g p q r e h = subst (IsRemainder f g q) (sym (remainder_unique fl g p r h ∙ e)) (remainder_exists fl g q)

-- a pattern with this remainder has the residue as remainder where the coefficients are the same
pub leaves : (g residue : List Fe32) (e : List (ℕ × Fe32)) (degree number : ℕ) → length g ≡ degree → number < 2 ^ (5 * degree)
    → IsRemainder fe32.ops g (pattern_polynomial fe32.ops e) (digits (length g) number)
    → ((n : ℕ) → digit_of number n ≡ coefficient fe32.ops residue n) ↔ HasRemainder fe32.ops g residue e
leaves g residue e degree number size clear is = (
  λ h. (digits (length g) number, is, λ i. coefficient_is i ∙ h i),
  λ r i. sym (coefficient_is i) ∙ ap (λ u. coefficient fe32.ops u i) (same r) ∙ r.2 i,
)
  where
    coefficient_is : (i : ℕ) → coefficient fe32.ops (digits (length g) number) i ≡ digit_of number i
    coefficient_is i = coefficient-digits (length g) number i (subst (λ d. number < 2 ^ (5 * d)) (sym size) clear)

    same : (r : HasRemainder fe32.ops g residue e) → digits (length g) number ≡ r.0
    same r = remainder_unique is_field g (pattern_polynomial fe32.ops e) (digits (length g) number) is ∙ sym (remainder_unique is_field g (pattern_polynomial fe32.ops e) r.0 r.1)

-- a listing that the second division accepts has the residue as remainder
pub remainder_left : {F : Type 0} {f : Ops F} (fl : IsField f) (g residue : List F) (e : List (ℕ × F)) → HasRemainder f g residue e → IsSamePolynomial f (remainder_of f g (pattern_polynomial f e)) residue
remainder_left {F} {f} fl g residue e h i = ap (λ u. coefficient f u i) (sym (remainder_unique fl g (pattern_polynomial f e) h.0 h.1)) ∙ h.2 i

pub left_over : {F : Type 0} {f : Ops F} (fl : IsField f) (g residue : List F) (e : List (ℕ × F)) → IsSamePolynomial f (remainder_of f g (pattern_polynomial f e)) residue → HasRemainder f g residue e
left_over {F} {f} fl g residue e h = (remainder_of f g (pattern_polynomial f e), remainder_exists fl g (pattern_polynomial f e), h)
