-- Sketches of remainders: packed, and without what can stand at the erasures.
use Rattle.std.specs.Prelude.{◌≡◌, ◌<◌, ◌==◌, ◌+◌, ◌-◌, ◌*◌, ◌/◌, ◌%◌, ◌^◌, ℕ, zero, suc}
use Rattle.std.specs.Prelude.{List, [], ◌∷◌, bit_xor, cond, get_or, length}
use Rattle.std.specs.List.{Contains}
use Rattle.std.specs.List.Sorted.{IsSorted}
use Rattle.std.specs.Ordering.{nat_cmp}
use Rattle.bech32_gf.specs.Fe32.{ops}
use Rattle.bech32_gf.specs.declared.gf32.Fe32.{Fe32}
use Rattle.bech32_poly.specs.Distinct.{IsAmong}
use Rattle.bech32_poly.specs.Division.{remainder_of}
use Rattle.bech32_poly.specs.Pattern.{monomial}
use Rattle.bech32_poly.specs.Polynomial.{coefficient}
use Rattle.bech32_checksum.specs.Packed.{sum_of_words}

-- the number, with the row's number added where it has the row's bit
abbrev pub cleared : ℕ × ℕ → ℕ → ℕ
cleared row number =
    cond (number / 2 ^ (row.0 % 64) % 2 == 1) (bit_xor number row.1) number

-- the same by each row, one after another
abbrev pub cleared_by : List (ℕ × ℕ) → ℕ → ℕ
cleared_by [] number = number
cleared_by (row ∷ rows) number = cleared_by rows (cleared row number)

-- nothing is left of the number, nor of any of which nothing was left before
abbrev pub IsForgotten : ℕ → List (ℕ × ℕ) → List (ℕ × ℕ) → Type 0
IsForgotten number old new =
    (cleared_by new number ≡ 0)
    × ((other : ℕ) → cleared_by old other ≡ 0 → cleared_by new other ≡ 0)

-- the number of i digits to the base 32, of which the first is f at size - 1
abbrev pub packed_by : ℕ → (ℕ → ℕ) → ℕ → ℕ
packed_by size f zero = 0
packed_by size f (suc i) = packed_by size f i * 32 + f (size - 1 - i)

-- what is left of the lowest coefficients of a list, packed
abbrev pub sketch : List (ℕ × ℕ) → ℕ → List Fe32 → ℕ
sketch rows size list =
    cleared_by rows (packed_by size (λ n. (coefficient ops list n).value) size)

-- that of the remainder of a value at a location
abbrev pub sketch_at : List (ℕ × ℕ) → ℕ → List Fe32 → ℕ → Fe32 → ℕ
sketch_at rows size generator location value =
    sketch rows size (remainder_of ops generator (monomial ops location value))

-- nothing is left of any value at the location, nor of any number of which nothing was left before
abbrev pub IsErasureForgotten : ℕ → List Fe32 → ℕ → List (ℕ × ℕ) → List (ℕ × ℕ) → Type 0
IsErasureForgotten size generator location old new =
    ((value : Fe32) → sketch_at new size generator location value ≡ 0)
    × ((other : ℕ) → cleared_by old other ≡ 0 → cleared_by new other ≡ 0)

-- nothing is left of any value at one of the erasures
abbrev pub AreForgotten : List (ℕ × ℕ) → ℕ → List Fe32 → List ℕ → Type 0
AreForgotten rows size generator erasures =
    (location : ℕ) → IsAmong location erasures
    → (value : Fe32) → sketch_at rows size generator location value ≡ 0

-- the sketches of 1, 2, 4, 8 and 16 at a location, each in a column as long as the window
abbrev pub five_of : List ℕ → ℕ → ℕ → List ℕ
five_of columns window location =
    get_or columns location 0 ∷ get_or columns (window + location) 0
    ∷ get_or columns (2 * window + location) 0 ∷ get_or columns (3 * window + location) 0
    ∷ get_or columns (4 * window + location) 0 ∷ []

-- the sketch of a value by these
abbrev pub key_of : List ℕ → ℕ → ℕ
key_of five value = sum_of_words (λ i. get_or five i 0) 5 value

-- so all sketches at the locations below the window come out
pub record AreColumns (rows : List (ℕ × ℕ)) (size : ℕ) (generator : List Fe32) (window : ℕ)
    (columns : List ℕ)
    : Type 0 where
  pub long : length columns ≡ 5 * window
  pub keys : (location : ℕ) → location < window → (value : Fe32)
      → key_of (five_of columns window location) value.value
      ≡ sketch_at rows size generator location value

-- the number of an error: by its sketch, its location and its value
abbrev pub entry_number : ℕ → ℕ → ℕ → ℕ
entry_number key location value = key % 2 ^ 35 * 2 ^ 29 + (location % 2 ^ 24 * 32 + value % 32)

-- in order, and each error at these locations has its number among them
pub record AreEntries (columns : List ℕ) (window : ℕ) (entries : List ℕ) : Type 0 where
  pub sorted : IsSorted nat_cmp entries
  pub all : (location : ℕ) → location < window → (value : ℕ) → 0 < value → value < 32
      → Contains entries
      (entry_number (key_of (five_of columns window location) value) location value)

-- the sketches of all single errors below the window
pub record IsTable (size : ℕ) (generator : List Fe32) (erasures : List ℕ) (window : ℕ)
    (rows : List (ℕ × ℕ)) (columns entries : List ℕ)
    : Type 0 where
  pub forgotten : AreForgotten rows size generator erasures
  pub columns_are : AreColumns rows size generator window columns
  pub entries_are : AreEntries columns window entries
