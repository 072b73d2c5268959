-- What a call does to the failed mark of a device.
use Rattle.std.specs.Prelude.{◌≡◌, ◌≤◌, ℕ, Bool, true, List, ◌++◌, length}
use Rattle.std.specs.Prelude.{drop, Result, Ok, Err, ◌==◌, ◌&&◌, nat_lt}
use Rattle.std.specs.IoError.{error_kind}
use Rattle.std.specs.declared.io.Error.{Error}
use Rattle.std.specs.declared.io.ErrorKind.TheVariants.{WriteZero}

-- whether a write of len bytes fails: by an error, or by taking none where there are some
abbrev pub write_fails : {E : Type 0} → Result ℕ E → ℕ → Bool
write_fails (Ok n) len = (n == 0) && nat_lt 0 len
write_fails (Err e) len = true

-- why a write of all bytes fails that ends with this write: by its error, or since it took nothing
abbrev pub IsErrorOfWrite : Result ℕ Error → Error → Type 0
IsErrorOfWrite (Ok taken) e = (taken ≡ 0) × (error_kind e ≡ WriteZero)
IsErrorOfWrite (Err own) e = e ≡ own

-- the last write was given what was left of the bytes, and it is why not all were taken
pub record IsErrorOfLastWrite {K : Type 0} (write_gives : K → List ℕ → Result ℕ Error → K → Type 0)
    (bytes : List ℕ) (after : K) (e : Error) : Type 0 where
  pub before : K
  pub at : ℕ
  pub within : at ≤ length bytes
  pub returned : Result ℕ Error
  pub last : write_gives before (drop at bytes) returned after
  pub why : IsErrorOfWrite returned e

-- the same of a text that is written piece by piece: the last write was given the end of a piece
abbrev pub IsErrorOfLastPiece : {K : Type 0} → (K → List ℕ → Result ℕ Error → K → Type 0) → List ℕ
    → K → Error → Type 0
IsErrorOfLastPiece write_gives text after e =
    (gone piece rest : List ℕ) × (text ≡ gone ++ (piece ++ rest))
    × IsErrorOfLastWrite write_gives piece after e
