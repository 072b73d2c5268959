-- The rows of a column of segwit addresses, decoded into buffers.
use Rattle.std.specs.Prelude.{◌≡◌, ◌≢◌, ◌<◌, ◌≤◌, ◌⊎◌, ◌+◌, ℕ, List, [], Result, Ok, Err}
use Rattle.std.specs.Prelude.{length, map, min}
use Rattle.bech32_gf.specs.Fe32.{value}
use Rattle.bech32_gf.specs.declared.gf32.Fe32.{Fe32}
use Rattle.bech32_hrp.specs.Hrp.{IsHrp, lowered}
use Rattle.bech32_decode.specs.Segwit.{IsAddress, IsOneSpelling}
use Rattle.bech32_decode.specs.Text.{HasHrp}
use Rattle.bech32_calls.specs.Faults.{IsNumberOf, IsPartFault}
use Rattle.bech32_calls.specs.Segwit.{CanDecodeAddress, IsSegwitDecodeFault}
use Rattle.bech32_calls.specs.declared.refusal.Refusal.{Refusal}
use Rattle.bech32_calls.specs.declared.refusal.Refusal.TheVariants.{BadNumber}
use Rattle.bech32_more_calls.specs.columns.Arrays.{Fills, HoldsArray, if_wanted, concat_of}
use Rattle.bech32_more_calls.specs.columns.Rows.{EachRow, HasRows, row_of}
use Rattle.bech32_more_calls.specs.declared.columns.column.Column.{Column}
use Rattle.bech32_refusals.specs.SegwitRules.{max_program_length}

-- what is said of a row
pub record AddressRow : Type 0 where
  pub number : ℕ
  pub version : ℕ
  pub hrp_length : ℕ
  pub program : List ℕ

-- a text is the address of these parts
pub record HasAddressParts (text part : List ℕ) (version : ℕ) (program : List ℕ) : Type 0 where
  pub witness_version : Fe32
  pub is_hrp : IsHrp part
  pub has_part : HasHrp text part
  pub is_address : IsAddress part witness_version program text
  pub spelling : IsOneSpelling text part witness_version program
  pub version_is : version ≡ value witness_version

-- a human-readable part is the one that is wanted, in either case, or any is
abbrev pub IsWanted : List ℕ → List ℕ → Type 0
IsWanted hrp part = (hrp ≡ []) ⊎ (lowered part ≡ lowered hrp)

-- a human-readable part that may be wanted: none, or one that there is
abbrev pub CanBeWanted : List ℕ → Type 0
CanBeWanted hrp = (hrp ≡ []) ⊎ IsHrp hrp

-- there are such rows, and the part may be wanted
abbrev pub CanDecodeMany : Column → ℕ → ℕ → List ℕ → Type 0
CanDecodeMany c first count hrp = HasRows c first count × CanBeWanted hrp

-- why no rows are decoded: there are no such rows; or bytes are given for a part, and are none
abbrev pub IsDecodeManyFault : Column → ℕ → ℕ → List ℕ → Refusal → Type 0
IsDecodeManyFault c first count hrp e =
    ((e ≡ BadNumber) × ¬ HasRows c first count)
    ⊎ (HasRows c first count × (hrp ≢ []) × IsPartFault hrp e)

-- a text is an address with a part that is wanted, and what is said of it
pub record IsWantedAddress (hrp text : List ℕ) (row : AddressRow) : Type 0 where
  pub part : List ℕ
  pub parts : HasAddressParts text part row.version row.program
  pub length_is : row.hrp_length ≡ length part
  pub wanted : IsWanted hrp part

-- a text is an address with another part
pub record IsOtherAddress (hrp text : List ℕ) : Type 0 where
  pub part : List ℕ
  pub version : ℕ
  pub program : List ℕ
  pub parts : HasAddressParts text part version program
  pub other : IsWanted hrp part → ⊥

-- what is said of a text, where `hrp` is wanted
pub record IsDecodedText (hrp text : List ℕ) (row : AddressRow) : Type 0 where
  pub value : row.number ≡ 0 → IsWantedAddress hrp text row
  pub other : row.number ≡ 49 → IsOtherAddress hrp text
  pub refused : row.number ≢ 0 → row.number ≢ 49
      → IsNumberOf (IsSegwitDecodeFault text 83 max_program_length) row.number
  pub accepts : CanDecodeAddress text 83 max_program_length → (row.number ≡ 0) ⊎ (row.number ≡ 49)
  pub nothing : row.number ≢ 0
      → (row.version ≡ 0) × (row.hrp_length ≡ 0) × (row.program ≡ [])

-- the same of a row
abbrev pub IsDecodedRow : List ℕ → Result (List ℕ) ℕ → AddressRow → Type 0
IsDecodedRow hrp (Ok text) row = IsDecodedText hrp text row
IsDecodedRow hrp (Err n) row =
    row ≡ record { number = n; version = 0; hrp_length = 0; program = [] }

-- the program of a row, where there is room for offsets
abbrev pub program_of : List ℕ → AddressRow → List ℕ
program_of offsets row = if_wanted offsets row.program

-- there is no room for `count` rows
abbrev pub LacksItems : ℕ → ℕ → ℕ → ℕ → Type 0
LacksItems versions_room lengths_room offsets_room count =
    ((versions_room ≢ 0) × (versions_room < count))
    ⊎ (((lengths_room ≢ 0) × (lengths_room < count))
    ⊎ ((offsets_room ≢ 0) × (offsets_room < count + 1)))

-- the program of the row after these does not fit behind theirs
pub record LacksRoomForProgram (c : Column) (first : ℕ) (hrp offsets : List ℕ) (room : ℕ)
    (rows : List AddressRow) : Type 0 where
  pub next : AddressRow
  pub said : IsDecodedRow hrp (row_of c (first + length rows)) next
  pub lacks : min room 2_147_483_647
      < length (concat_of (map (program_of offsets) rows)) + length (program_of offsets next)

-- what is said of the first rows from one on is put into buffers: of as many as there is room for
pub record PutsAddresses (c : Column) (first : ℕ) (hrp numbers numbers' versions versions'
    hrp_lengths hrp_lengths' offsets offsets' programs programs' : List ℕ) (done : ℕ)
    : Type 0 where
  pub rows : List AddressRow
  pub each : EachRow (λ k. IsDecodedRow hrp) c first 0 rows
  pub done_is : done ≡ length rows
  pub numbers_put : Fills (map (λ row. row.number) rows) numbers numbers'
  pub versions_put : Fills (map (λ row. row.version) rows) versions versions'
  pub lengths_put : Fills (map (λ row. row.hrp_length) rows) hrp_lengths hrp_lengths'
  pub programs_put : HoldsArray (map (program_of offsets) rows) offsets offsets' programs programs'
  pub within : done ≤ length numbers
  pub room : LacksItems (length versions) (length hrp_lengths) (length offsets) done → ⊥
  pub full : (done ≡ length numbers)
      ⊎ (LacksItems (length versions) (length hrp_lengths) (length offsets) (done + 1)
      ⊎ LacksRoomForProgram c first hrp offsets (length programs) rows)
