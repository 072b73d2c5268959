-- The size of a residue, and the residue of an engine that was given nothing.
use Rattle.std.proofs.Common.{◌≡◌, ◌<◌, ◌≤◌, ◌*◌, ◌/◌, ◌^◌, ℕ, zero, suc, List, [], ◌∷◌, length, subst, refl, sym, ◌∙◌, ap, arith}
use Rattle.std.proofs.Math.Nat.{div-eq_of_lt}
use Rattle.std.proofs.Math.Pow.{pow-lt}
use Rattle.bech32_gf.specs.Fe32 as fe32
use Rattle.bech32_gf.specs.laws.Fe32Laws.{is_field}
use Rattle.bech32_gf.specs.declared.gf32.Fe32.{Fe32}
use Rattle.bech32_poly.specs.Remainder.{IsRemainder}
use Rattle.bech32_poly.proofs.Lists.{same_cons}
use Rattle.bech32_poly.specs.Division.{zeros}
use Rattle.bech32_poly.proofs.Remainder.{remainder_exists, remainder_of-short}
use Rattle.bech32_checksum.specs.Packed.{digit_of, digits, tabulate}
use Rattle.bech32_checksum.proofs.PartialProduct.{zero_digit}

zero_above : (n : ℕ) → digit_of 1 (suc n) ≡ fe32.zero
zero_above n =
    let above : 0 < 5 * suc n = omega arith in
    let small : 1 < 2 ^ (5 * suc n) = pow-lt above in
    let none : 1 / 2 ^ (5 * suc n) ≡ 0 = div-eq_of_lt small in
    ap fe32.element none

zeros_above : (c : ℕ) (f : ℕ → Fe32) → ((n : ℕ) → f n ≡ fe32.zero) → tabulate c f ≡ zeros fe32.ops c
zeros_above zero f h = refl
zeros_above (suc c) f h = same_cons _ _ _ _ (h 0) (zeros_above c (λ i. f (suc i)) (λ n. h (suc n)))

-- an engine of the polynomial zero has a row of zeros
pub zero_is_residue : (low : List Fe32) (n : ℕ) → n ≡ 0 → IsRemainder fe32.ops low [] (digits (length low) n)
zero_is_residue low n there =
    subst (IsRemainder fe32.ops low [])
    (sym (zeros_above (length low) (digit_of n) (λ k. ap (λ m. digit_of m k) there ∙ zero_digit k)))
    (remainder_exists is_field low [])

-- an engine that was given nothing has the remainder of the polynomial 1
pub one_is_residue : (low : List Fe32) (width n : ℕ) → length low ≤ width → (0 < width → n ≡ 1)
    → IsRemainder fe32.ops low (fe32.one ∷ []) (digits (length low) n)
one_is_residue [] width n within one = remainder_exists is_field [] (fe32.one ∷ [])
one_is_residue (a ∷ rest) width n within one =
    let low : List Fe32 = a ∷ rest in
    let c : ℕ = length rest in
    let there : n ≡ 1 = one (omega arith) in
    subst (IsRemainder fe32.ops low (fe32.one ∷ []))
    (remainder_of-short is_field low (fe32.one ∷ []) c (omega arith)
    ∙ same_cons _ _ _ _ (fe32.path fe32.one (digit_of 1 0) refl) (sym (zeros_above c (λ i. digit_of 1 (suc i)) zero_above))
    ∙ ap (digits (suc c)) (sym there))
    (remainder_exists is_field low (fe32.one ∷ []))
