-- The rows of a column of programs, encoded as segwit addresses into buffers.
use Rattle.std.specs.Prelude.{◌≡◌, ◌≢◌, ◌<◌, ◌≤◌, ◌⊎◌, ◌+◌, ℕ, List, [], Result, Ok, Err}
use Rattle.std.specs.Prelude.{length, map, min, slice_index}
use Rattle.bech32_gf.specs.Fe32.{element}
use Rattle.bech32_hrp.specs.Hrp.{IsHrp}
use Rattle.bech32_decode.specs.Segwit.{IsLowerAddress}
use Rattle.bech32_calls.specs.Faults.{IsNumberOf}
use Rattle.bech32_calls.specs.Segwit.{HasRoomFor, IsSegwitEncodeFault}
use Rattle.bech32_more_calls.specs.columns.Arrays.{Fills, HoldsArray, concat_of}
use Rattle.bech32_more_calls.specs.columns.Rows.{EachRow, row_of}
use Rattle.bech32_more_calls.specs.declared.columns.column.Column.{Column}
use Rattle.bech32_refusals.specs.SegwitRules.{max_address_length}

-- what is put of a row
pub record TextRow : Type 0 where
  pub number : ℕ
  pub text : List ℕ

-- the address of a human-readable part, a version and a program, in lower case
pub record IsWritten (hrp : List ℕ) (version : ℕ) (program text : List ℕ) : Type 0 where
  pub is_hrp : IsHrp hrp
  pub small : version ≤ 31
  pub is_address : IsLowerAddress hrp (element version) program text

-- what is put of a program: an address has at most max_address_length characters
pub record IsEncodedProgram (hrp : List ℕ) (version : ℕ) (program : List ℕ) (row : TextRow)
    : Type 0 where
  pub value : row.number ≡ 0 → IsWritten hrp version program row.text
  pub refused : row.number ≢ 0
      → IsNumberOf (IsSegwitEncodeFault hrp version program max_address_length) row.number
  pub accepts : HasRoomFor hrp version program max_address_length → row.number ≡ 0
  pub nothing : row.number ≢ 0 → row.text ≡ []

-- the same of a row
abbrev pub IsEncodedRow : List ℕ → ℕ → Result (List ℕ) ℕ → TextRow → Type 0
IsEncodedRow hrp version (Ok program) row = IsEncodedProgram hrp version program row
IsEncodedRow hrp version (Err n) row = row ≡ record { number = n; text = [] }

-- row k has the version of this place
abbrev pub IsEncodedAt : List ℕ → List ℕ → ℕ → Result (List ℕ) ℕ → TextRow → Type 0
IsEncodedAt hrp versions k = IsEncodedRow hrp (slice_index versions k)

-- the address of the row after these does not fit behind theirs
pub record LacksRoomForText (c : Column) (first : ℕ) (hrp versions : List ℕ) (room : ℕ)
    (rows : List TextRow) : Type 0 where
  pub next : TextRow
  pub said : IsEncodedAt hrp versions (length rows) (row_of c (first + length rows)) next
  pub lacks : min room 2_147_483_647
      < length (concat_of (map (λ row. row.text) rows)) + length next.text

-- what the first rows from one on are encoded to is put into buffers: of as many as there is room
-- for
pub record PutsTexts (c : Column) (first : ℕ) (hrp versions numbers numbers' offsets offsets'
    texts texts' : List ℕ) (done : ℕ) : Type 0 where
  pub rows : List TextRow
  pub each : EachRow (IsEncodedAt hrp versions) c first 0 rows
  pub done_is : done ≡ length rows
  pub numbers_put : Fills (map (λ row. row.number) rows) numbers numbers'
  pub texts_put : HoldsArray (map (λ row. row.text) rows) offsets offsets' texts texts'
  pub within : done ≤ length numbers
  pub room : (done ≡ 0) ⊎ (done < length offsets)
  pub full : (done ≡ length numbers)
      ⊎ ((length offsets ≤ done + 1) ⊎ LacksRoomForText c first hrp versions (length texts) rows)
