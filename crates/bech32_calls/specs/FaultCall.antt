-- What the function for C that finds the fault of a text returns, and where it says that it stands.
use Rattle.std.specs.Prelude.{◌≡◌, ◌≢◌, ℕ, List}
use Rattle.bech32_decode.specs.Acceptance.{Accepts}
use Rattle.bech32_calls.specs.Check.{IsCheckFault}
use Rattle.bech32_calls.specs.Checksums.{ForTexts, IsFaultOfTexts}
use Rattle.bech32_calls.specs.Faults.{IsNumberOf}
use Rattle.bech32_calls.specs.Place.{HasPlace, IsPlace}

-- by the checksum of a number, 0 is returned of a text that it accepts, and of any other the number
-- of its refusal; the place of a fault that has one is put, and else the place stays as it was
pub record IsFaultCall (checksum : ℕ) (text : List ℕ) (old new result : ℕ) : Type 0 where
  pub value : result ≡ 0 → ForTexts checksum (λ code. Accepts code text)
  pub accepts : ForTexts checksum (λ code. Accepts code text) → result ≡ 0
  pub refused : result ≢ 0 → IsNumberOf (IsFaultOfTexts checksum (IsCheckFault text)) result
  pub place : HasPlace result → IsPlace text result new
  pub same : (HasPlace result → ⊥) → new ≡ old
