-- The rows of a column, as lists of bytes.
use Rattle.std.specs.Prelude.{◌==◌, ◌+◌, ◌-◌, ◌*◌, ◌/◌, ◌%◌, ◌^◌, ◌≤◌, ◌&&◌}
use Rattle.std.specs.Prelude.{ℕ, List, [], ◌∷◌, Option, Some, None, Result, Ok, Err, ⊤}
use Rattle.std.specs.Prelude.{if◌then◌else◌, length, take, drop, min, nat_le, nat_lt, slice_index}
use Rattle.std.specs.List.{suffix_len}
use Rattle.std.specs.Int.{Width, w32, w64, from_le_bytes}
use Rattle.bech32_more_calls.specs.declared.columns.column.Column.{Column}

-- the bytes from one place up to another, where they lie in these, and the other is not above the
-- most
abbrev pub cut : ℕ → List ℕ → ℕ → ℕ → Option (List ℕ)
cut most bytes start end =
    if nat_le start end && nat_le end (min most (length bytes))
    then Some (take (end - start) (drop start bytes))
    else None

-- the width of numbers of four bytes, or of eight
abbrev pub offset_width : ℕ → Width
offset_width size = if size == 4 then w32 else w64

-- the bytes of row i by its two offsets of `size` bytes each, the lowest first, where they are
-- there; one above the most is negative
abbrev pub row_of_size : ℕ → ℕ → List ℕ → List ℕ → ℕ → Option (List ℕ)
row_of_size size most bytes offsets i =
    if nat_lt (i + 1) (length offsets / size)
    then cut most bytes (from_le_bytes (offset_width size) (take size (drop (size * i) offsets)))
    (from_le_bytes (offset_width size) (take size (drop (size * (i + 1)) offsets)))
    else None

-- the bytes of row i where all have one width
abbrev pub row_of_width : List ℕ → ℕ → ℕ → Option (List ℕ)
row_of_width bytes width i = cut (length bytes) bytes (i * width) (i * width + width)

-- bytes without the zeros at their end
abbrev pub without_zeros : List ℕ → List ℕ
without_zeros bytes = take (length bytes - suffix_len (λ b. b == 0) bytes) bytes

-- the same where there are bytes
abbrev pub some_without_zeros : Option (List ℕ) → Option (List ℕ)
some_without_zeros (Some bytes) = Some (without_zeros bytes)
some_without_zeros None = None

-- the bytes of row i, where they are in the column
abbrev pub bytes_of_row : Column → ℕ → Option (List ℕ)
bytes_of_row c i =
    if c.layout == 1 then row_of_size 4 2_147_483_647 c.bytes.now c.offsets.now i
    else (if c.layout == 2 then row_of_size 8 9_223_372_036_854_775_807 c.bytes.now c.offsets.now i
    else (if c.layout == 3 then row_of_width c.bytes.now c.width i
    else some_without_zeros (row_of_width c.bytes.now c.width i)))

-- the bytes, or the number of a row without them
abbrev pub found : Option (List ℕ) → Result (List ℕ) ℕ
found (Some bytes) = Ok bytes
found None = Err 4

-- bit i of bytes, the lowest bit of each first
abbrev pub bit : List ℕ → ℕ → ℕ
bit bytes i = slice_index bytes (i / 8) / 2 ^ (i % 8) % 2

-- what row i is: its bytes, or the number of a row that is null or not in the column
abbrev pub row_of : Column → ℕ → Result (List ℕ) ℕ
row_of c i =
    if length c.validity.now == 0 then found (bytes_of_row c i)
    else (if nat_le (length c.validity.now) (i / 8) then Err 4
    else (if bit c.validity.now i == 0 then Err 1 else found (bytes_of_row c i)))

-- the column has a layout, and as many rows from one on
pub record HasRows (c : Column) (first count : ℕ) : Type 0 where
  pub least : 1 ≤ c.layout
  pub most : c.layout ≤ 4
  pub rows : first + count ≤ c.rows

-- P holds of k, row first + k and item k of these, which begin with the item of this k
abbrev pub EachRow : {R : Type 0} → (ℕ → Result (List ℕ) ℕ → R → Type 0) → Column → ℕ → ℕ → List R
    → Type 0
EachRow P c first k [] = ⊤
EachRow P c first k (r ∷ rs) = P k (row_of c (first + k)) r × EachRow P c first (k + 1) rs
