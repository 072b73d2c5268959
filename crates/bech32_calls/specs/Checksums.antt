-- The checksums that a number stands for.
use Rattle.std.specs.Prelude.{◌≡◌, ◌==◌, ℕ, if◌then◌else◌, Option, Some, None, MatchOption}
use Rattle.bech32_checksum.specs.Code.{Code, bech32, bech32m}
use Rattle.bech32.specs.Long.{long_bech32, long_bech32m}
use Rattle.bech32_calls.specs.declared.refusal.Refusal.{Refusal}
use Rattle.bech32_calls.specs.declared.refusal.Refusal.TheVariants.{BadNumber}

-- ---- of texts that are mended

-- 1 is Bech32, 2 is Bech32m, and no other number is a checksum's
abbrev pub code_of_number : ℕ → Option Code
code_of_number n = if n == 1 then Some bech32 else (if n == 2 then Some bech32m else None)

-- the number is that of a checksum, of which P holds
abbrev pub ForChecksum : ℕ → (Code → Type 0) → Type 0
ForChecksum n P = MatchOption (code_of_number n) ⊥ P

-- why the call with the checksum of a number is refused: the number is that of none, or what
-- is wrong by that checksum
abbrev pub IsFaultBy : ℕ → (Code → Refusal → Type 0) → Refusal → Type 0
IsFaultBy n IsFault e = MatchOption (code_of_number n) (e ≡ BadNumber) (λ code. IsFault code e)

-- ---- of texts that are read and written

-- 1 and 2 are those, 3 and 4 the same for long texts, and no other number is a checksum's
abbrev pub code_of_text_number : ℕ → Option Code
code_of_text_number n =
    if n == 1 then Some bech32
    else (if n == 2 then Some bech32m
    else (if n == 3 then Some long_bech32
    else (if n == 4 then Some long_bech32m else None)))

-- the number is that of a checksum, of which P holds
abbrev pub ForTexts : ℕ → (Code → Type 0) → Type 0
ForTexts n P = MatchOption (code_of_text_number n) ⊥ P

-- why the call with the checksum of a number is refused: the number is that of none, or what
-- is wrong by that checksum
abbrev pub IsFaultOfTexts : ℕ → (Code → Refusal → Type 0) → Refusal → Type 0
IsFaultOfTexts n IsFault e =
    MatchOption (code_of_text_number n) (e ≡ BadNumber) (λ code. IsFault code e)
