-- What the packed words of a checksum owe one another.
use Rattle.std.specs.Prelude.{◌≡◌, ◌≤◌, ℕ, suc, List, length, Some, slice_get}
use Rattle.bech32_gf.specs.Fe32 as fe32
use Rattle.bech32_checksum.specs.Packed.{digit_of, HasDigits}

-- Rows of `width` elements hold the lower coefficients of a generator of a degree, their
-- products with 2, 4, 8 and 16, and a target (the constants of BIP-173, Checksum); `number` is
-- the number that a row stands for.
pub record KeepsPackingLaws {R : Type 0} (number : R → ℕ)
    (width degree : ℕ) (words : List R) (target : R)
    : Type 0 where
  pub fits : degree ≤ width
  -- only the rows that hold nothing serve a generator of degree 0
  pub empty : degree ≡ 0 → width ≡ 0
  pub five : length words ≡ 5
  -- each word is the one before it with each element times 2
  pub shifts : (i : ℕ) (w v : R) → slice_get words i ≡ Some w → slice_get words (suc i) ≡ Some v
      → (n : ℕ) → digit_of (number v) n ≡ fe32.mul (digit_of (number w) n) fe32.generator
  -- no bit is set past the lowest `degree` elements
  pub words_clear : (i : ℕ) (w : R) → slice_get words i ≡ Some w → HasDigits degree (number w)
  pub target_clear : HasDigits degree (number target)
