-- The numbers of the rows of a column of texts that are tested.
use Rattle.std.specs.Prelude.{◌≡◌, ◌≢◌, ◌+◌, ◌<◌, ◌≤◌}
use Rattle.std.specs.Prelude.{ℕ, List, Result, Ok, Err, length, slice_index}
use Rattle.bech32_decode.specs.Acceptance.{Accepts, IsAcceptedByEither}
use Rattle.bech32_calls.specs.Check.{IsCheckFault}
use Rattle.bech32_calls.specs.Checksums.{ForTexts, IsFaultOfTexts}
use Rattle.bech32_calls.specs.Decode.{IsReadFault}
use Rattle.bech32_calls.specs.Faults.{IsNumberOf}
use Rattle.bech32_calls.specs.declared.refusal.Refusal.{Refusal}
use Rattle.bech32_more_calls.specs.columns.Rows.{HasRows, row_of}
use Rattle.bech32_more_calls.specs.declared.columns.column.Column.{Column}

-- 0 where something holds, else the number of a fault
pub record IsNumberFor (Accepted : Type 0) (IsFault : Refusal → Type 0) (number : ℕ) : Type 0 where
  pub value : number ≡ 0 → Accepted
  pub accepts : Accepted → number ≡ 0
  pub refused : number ≢ 0 → IsNumberOf IsFault number

-- the number of a text by the checksum of a number, and with 0 by Bech32m and Bech32
pub record IsCheckedText (checksum : ℕ) (text : List ℕ) (number : ℕ) : Type 0 where
  pub either : checksum ≡ 0 → IsNumberFor (IsAcceptedByEither text) (IsReadFault text) number
  pub one : checksum ≢ 0 → IsNumberFor (ForTexts checksum (λ code. Accepts code text))
      (IsFaultOfTexts checksum (IsCheckFault text)) number

-- the same of a row
abbrev pub IsCheckedRow : ℕ → Result (List ℕ) ℕ → ℕ → Type 0
IsCheckedRow checksum (Ok text) number = IsCheckedText checksum text number
IsCheckedRow checksum (Err n) number = number ≡ n

-- the numbers of all rows from one on are put
abbrev pub PutsNumbers : ℕ → Column → ℕ → List ℕ → Type 0
PutsNumbers checksum c first numbers =
    (k : ℕ) → k < length numbers
    → IsCheckedRow checksum (row_of c (first + k)) (slice_index numbers k)

-- there is such a checksum, and there are such rows
abbrev pub CanCheck : ℕ → Column → ℕ → ℕ → Type 0
CanCheck checksum c first count = (checksum ≤ 4) × HasRows c first count
