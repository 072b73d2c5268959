-- What the number that a test of a text returns says of the text.
use Rattle.std.specs.Prelude.{◌≡◌, ◌≢◌, ℕ, List}
use Rattle.bech32_decode.specs.Acceptance.{Accepts}
use Rattle.bech32_calls.specs.Check.{IsCheckFault}
use Rattle.bech32_calls.specs.Checksums.{ForTexts, IsFaultOfTexts}
use Rattle.bech32_calls.specs.Faults.{IsNumberOf}
use Rattle.bech32_calls.specs.Place.{IsPlace}

-- by the checksum of a number: 0 exactly of a text that it accepts, and of any other the number of
-- its refusal, of a fault that stands somewhere
pub record IsNumberOfCheck (checksum : ℕ) (text : List ℕ) (number : ℕ) : Type 0 where
  pub value : number ≡ 0 → ForTexts checksum (λ code. Accepts code text)
  pub accepts : ForTexts checksum (λ code. Accepts code text) → number ≡ 0
  pub refused : number ≢ 0 → IsNumberOf (IsFaultOfTexts checksum (IsCheckFault text)) number
  pub stands : (p : ℕ) × IsPlace text number p
