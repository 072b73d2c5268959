-- The divisors of the order.
use Rattle.std.proofs.Common.{◌≡◌, ◌<◌, ◌^◌, ◌∙◌, ℕ, List, length, arith}
use Rattle.std.specs.Prelude.{slice_index}
use Rattle.std.proofs.lemmas.List.{get_or_default}
use Rattle.std.proofs.lemmas.Nat.Gcd.{dvd_refl, le_of_dvd}
use Rattle.bech32_gf.specs.Field.{ListsDivisors, IsPositiveI64}
use Rattle.bech32_gf.specs.laws.FieldLaws.{divides-from_place}

-- each divisor fits an i64, where the number does
pub divisor_fits : (n : ℕ) (divisors : List ℕ) → IsPositiveI64 n → ListsDivisors n divisors
    → (k : ℕ) → k < length divisors → slice_index divisors k < 2 ^ 63
divisor_fits n divisors fits lists k within =
    omega (arith, le_of_dvd fits.positive (divides-from_place n divisors lists k within), fits.below)

-- the number is among its divisors
pub whole_listed : (n : ℕ) (divisors : List ℕ) → ListsDivisors n divisors → (k : ℕ) × (k < length divisors) × (slice_index divisors k ≡ n)
whole_listed n divisors lists =
    let at = (lists.all n).1 (dvd_refl n) in
    (at.0, at.1, get_or_default divisors at.0 0 n at.1 ∙ at.2)
