-- The roots of a generator in a field, and the constants that the longest series of them gives.
use Rattle.std.specs.Prelude.{◌≡◌, ◌≢◌, ◌<◌, ◌+◌, ◌-◌, ℕ, Bool, List, length, map, reverse}
use Rattle.bech32_gf.specs.Field.{Ops, IsOrder, power}
use Rattle.bech32_gf.specs.Fe32 as fe32
use Rattle.bech32_gf.specs.declared.gf32.Fe32.{Fe32}
use Rattle.bech32_poly.specs.Remainder.{monic}
use Rattle.bech32_poly.specs.RootSearch.{root_exponents}
use Rattle.bech32_block.specs.Series.{IsLongestSeries}

-- a field in which roots are looked for: its operations, the test whether elements are the
-- same, where the elements of a generator stand in it, and an element whose powers are all
-- elements but zero, with its order
pub record RootField (E : Type 0) : Type 0 where
  pub ops : Ops E
  pub same : E → E → Bool
  pub embed : Fe32 → E
  pub generator : E
  pub order : ℕ

-- the field with these
abbrev pub root_field : {E : Type 0} → Ops E → (E → E → Bool) → (Fe32 → E) → E → ℕ → RootField E
root_field ops same embed generator order =
    record { ops = ops; same = same; embed = embed; generator = generator; order = order }

-- the exponents of the roots, as powers of the field's element, in rising order: each
-- root that is not zero once
abbrev pub roots_of : {E : Type 0} → RootField E → List Fe32 → List ℕ
roots_of f generator =
    root_exponents f.ops f.same
    (map f.embed (monic fe32.ops (reverse generator))) f.generator 0 f.order

-- there are as many roots that are not zero as the degree
abbrev pub HasAllRoots : {E : Type 0} → RootField E → List Fe32 → Type 0
HasAllRoots f generator = length (roots_of f generator) ≡ length generator

-- The base is the ratio of the longest series of roots, the code length its order. The first
-- exponent is the least of the base's that gives the first root of the series, and the last
-- one that of its last root.
pub record AreOfLongestSeries {E : Type 0} (f : RootField E)
    (roots : List ℕ) (base : E) (start end code_length : ℕ)
    : Type 0 where
  pub first : ℕ
  pub step : ℕ
  pub count : ℕ
  pub is_longest : IsLongestSeries f.order roots first step count
  pub base_is : base ≡ power f.ops f.generator step
  pub start_gives : power f.ops base start ≡ power f.ops f.generator first
  pub start_least : (j : ℕ) → j < start → power f.ops base j ≢ power f.ops f.generator first
  pub end_is : end ≡ start + (count - 1)
  pub code_length_is : IsOrder f.ops base code_length

-- the first root of the longest series is not a power of its ratio
pub record HasNoExponents {E : Type 0} (f : RootField E) (roots : List ℕ) : Type 0 where
  pub first : ℕ
  pub step : ℕ
  pub count : ℕ
  pub is_longest : IsLongestSeries f.order roots first step count
  pub no_power : (k : ℕ)
      → power f.ops (power f.ops f.generator step) k ≢ power f.ops f.generator first
