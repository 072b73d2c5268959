-- The remainders of single terms, each packed into a number.
use Rattle.std.specs.Prelude.{◌≢◌, ◌⊎◌, ◌<◌, ℕ, bit_xor, List, length}
use Rattle.std.specs.List.{Contains}
use Rattle.bech32_gf.specs.Fe32 as fe32
use Rattle.bech32_gf.specs.Field.{Ops}
use Rattle.bech32_gf.specs.declared.gf32.Fe32.{Fe32}
use Rattle.bech32_poly.specs.Division.{remainder_of, zeros}
use Rattle.bech32_poly.specs.Pattern.{monomial}
use Rattle.bech32_checksum.specs.Packed.{IsRowOf}

-- the remainder of v times the i-th power of x, by the generator with the lower coefficients g
abbrev pub term : {F : Type 0} → Ops F → List F → ℕ → F → List F
term f g i v = remainder_of f g (monomial f i v)

-- some number of the list is the row of r
pub record HasRow (d : ℕ) (rows : List ℕ) (r : List Fe32) : Type 0 where
  pub number : ℕ
  pub among : Contains rows number
  pub row : IsRowOf d r number

-- the number is the row of the remainder of v times a power of x, from the first to below the n-th
pub record IsTermRow (g : List Fe32) (n : ℕ) (v : Fe32) (number : ℕ) : Type 0 where
  pub location : ℕ
  pub positive : 0 < location
  pub below : location < n
  pub row : IsRowOf (length g) (term fe32.ops g location v) number

-- `new` has what `old` has, the rows of the remainders of v times these powers, and no other
pub record HasTermsAdded (g : List Fe32) (n : ℕ) (v : Fe32) (old new : List ℕ) : Type 0 where
  pub kept : (number : ℕ) → Contains old number → Contains new number
  pub each : (i : ℕ) → 0 < i → i < n → HasRow (length g) new (term fe32.ops g i v)
  pub no_other : (number : ℕ) → Contains new number → Contains old number ⊎ IsTermRow g n v number

-- the rows of zero and of all these remainders of values that are not zero, and no other
pub record AreTermRows (g : List Fe32) (n : ℕ) (rows : List ℕ) : Type 0 where
  pub nothing : HasRow (length g) rows (zeros fe32.ops (length g))
  pub each : (v : Fe32) → v ≢ fe32.zero → (i : ℕ) → 0 < i → i < n
      → HasRow (length g) rows (term fe32.ops g i v)
  pub no_other : (number : ℕ) → Contains rows number
      → IsRowOf (length g) (zeros fe32.ops (length g)) number
      ⊎ ((v : Fe32) × (v ≢ fe32.zero) × IsTermRow g n v number)

-- a number of the list and another one of it are `sum` apart
abbrev pub HasPair : List ℕ → ℕ → Type 0
HasPair rows sum = (second : ℕ) × Contains rows second × Contains rows (bit_xor sum second)

-- three numbers of the list are `sum` together
abbrev pub HasThree : List ℕ → ℕ → Type 0
HasThree rows sum = (first : ℕ) × Contains rows first × HasPair rows (bit_xor sum first)
