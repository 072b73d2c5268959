-- Series of roots r, rq, rq^2, .., by their exponents as powers of one element, whose order is n.
use Rattle.std.specs.Prelude.{◌≡◌, ◌≢◌, ℕ, ◌+◌, ◌*◌, ◌%◌, ◌<◌, ◌≤◌, List, ◌⊎◌}
use Rattle.std.specs.List.{Contains}

-- the exponent of r q^k, where those of r and q are `first` and `step`
abbrev pub series_term : ℕ → ℕ → ℕ → ℕ → ℕ
series_term n first step k = (first + k * step) % n

-- this many roots r, rq, rq^2, .., pairwise different; q is not one. `roots` lists
-- the exponents of all roots.
pub record IsSeries (n : ℕ) (roots : List ℕ) (first step count : ℕ) : Type 0 where
  pub step_positive : 0 < step
  pub step_below : step < n
  pub are_roots : (k : ℕ) → k < count → Contains roots (series_term n first step k)
  pub different : (j k : ℕ) → j < k → k < count
      → series_term n first step j ≢ series_term n first step k

-- of two pairs of exponents one has the smaller first one, or the same first one and a
-- second one that is not greater
abbrev pub Before : ℕ → ℕ → ℕ → ℕ → Type 0
Before first second first' second' = (first < first') ⊎ ((first ≡ first') × (second ≤ second'))

-- no series has more roots, and each that has as many begins with a later pair of roots
pub record IsLongestSeries (n : ℕ) (roots : List ℕ) (first step count : ℕ) : Type 0 where
  pub below : first < n
  pub series : IsSeries n roots first step count
  pub longest : (first' step' count' : ℕ) → first' < n → IsSeries n roots first' step' count'
      → count' ≤ count
  pub earliest : (first' step' : ℕ) → first' < n → IsSeries n roots first' step' count
      → Before first (series_term n first step 1) first' (series_term n first' step' 1)

-- k is the least number, from 0 on, whose power of the element with the exponent `step` is
-- the one with that exponent
pub record IsLeastPower (n step exponent k : ℕ) : Type 0 where
  pub gives : (k * step) % n ≡ exponent
  pub least : (j : ℕ) → j < k → (j * step) % n ≢ exponent

-- k is the least number, from 1 on, whose power of the element with the exponent `step` is one
pub record IsPeriod (n step k : ℕ) : Type 0 where
  pub positive : 0 < k
  pub returns : (k * step) % n ≡ 0
  pub least : (j : ℕ) → 0 < j → j < k → (j * step) % n ≢ 0
