-- Errors that leave a residue, and the single one among them.
use Rattle.std.specs.Prelude.{◌≡◌, ◌≢◌, ◌<◌, ◌==◌, ◌+◌, ◌*◌, cond, ℕ, List, [], ◌∷◌}
use Rattle.bech32_gf.specs.Fe32.{inv, ops, zero}
use Rattle.bech32_gf.specs.declared.gf32.Fe32.{Fe32}
use Rattle.bech32_poly.specs.Pattern.{pattern_polynomial}
use Rattle.bech32_poly.specs.Polynomial.{IsSamePolynomial, scale}
use Rattle.bech32_poly.specs.Remainder.{IsRemainder}
use Rattle.bech32_checksum.specs.Lookup.{MatchLookup}
use Rattle.bech32_checksum.specs.Packed.{digit_of}
use Rattle.bech32_checksum.specs.declared.lookups.Lookup.{Lookup}

-- the polynomial of these errors has the residue as remainder, by the generator with these lower
-- coefficients
abbrev pub IsLeftBy : List Fe32 → List Fe32 → List (ℕ × Fe32) → Type 0
IsLeftBy generator residue errors =
    (remainder : List Fe32) × IsRemainder ops generator (pattern_polynomial ops errors) remainder
    × IsSamePolynomial ops remainder residue

-- the locations, each with its value; zero where there are fewer values
abbrev pub valued : List ℕ → List Fe32 → List (ℕ × Fe32)
valued [] values = []
valued (location ∷ rest) [] = (location, zero) ∷ valued rest []
valued (location ∷ rest) (value ∷ values) = (location, value) ∷ valued rest values

-- this error below the code length leaves the residue, and none at another location does
pub record IsOnlyError (generator : List Fe32) (code_length : ℕ) (residue : List Fe32)
    (error : ℕ × Fe32)
    : Type 0 where
  pub below : error.0 < code_length
  pub not_zero : error.1 ≢ zero
  pub leaves : IsLeftBy generator residue (error ∷ [])
  pub only : (i : ℕ) (v : Fe32) → i < code_length → IsLeftBy generator residue ((i, v) ∷ [])
      → i ≡ error.0

-- the only single error below the code length that leaves the residue, or Absent if none does
abbrev pub IsSingle : List Fe32 → ℕ → List Fe32 → Lookup (ℕ × Fe32) → Type 0
IsSingle generator code_length residue result = MatchLookup result
    ((i : ℕ) (v : Fe32) → i < code_length → IsLeftBy generator residue ((i, v) ∷ []) → ⊥)
    (IsOnlyError generator code_length residue)

-- elements at a location and at one below a window that together leave the residue, or Absent if
-- none do
abbrev pub IsBeside : List Fe32 → ℕ → List Fe32 → ℕ → Lookup (Fe32 × (ℕ × Fe32)) → Type 0
IsBeside generator window residue location result = MatchLookup result
    ((v : Fe32) (i : ℕ) (w : Fe32) → i < window
    → IsLeftBy generator residue ((location, v) ∷ (i, w) ∷ []) → ⊥)
    (λ found. (found.1.0 < window)
    × IsLeftBy generator residue ((location, found.0) ∷ found.1 ∷ []))

-- elements at the locations that together leave the residue, or Absent if none do
abbrev pub AreOnlyValues : List Fe32 → List Fe32 → List ℕ → Lookup (List Fe32) → Type 0
AreOnlyValues generator residue locations result = MatchLookup result
    ((values : List Fe32) → IsLeftBy generator residue (valued locations values) → ⊥)
    (λ values. IsLeftBy generator residue (valued locations values))

-- a place of six at which a number has a digit that is not zero, as the number of the bits below
-- it, and the inverse of the digit
abbrev pub IsPivotOf : ℕ → ℕ → Fe32 → Type 0
IsPivotOf number bit inverse = (k : ℕ) × (k < 6) × (bit ≡ 5 * k)
    × (digit_of number k ≢ zero) × (inverse ≡ inv (digit_of number k))

-- the first element of a list that is not zero, and zero where there is none
abbrev pub leading : List Fe32 → Fe32
leading [] = zero
leading (x ∷ p) = cond (x.value == 0) (leading p) x

-- the elements of a list packed, the first one lowest
abbrev pub packed : List Fe32 → ℕ
packed [] = 0
packed (x ∷ p) = x.value + 32 * packed p

-- the elements divided by the first one that is not zero, packed
abbrev pub key : List Fe32 → ℕ
key p = packed (scale ops (inv (leading p)) p)
