-- The numbers of refusals of calls on confidential addresses.
use Rattle.std.specs.Prelude.{ℕ}
use Rattle.bech32_calls.specs.Numbers as other
use Rattle.bech32_numbers.specs.Refused.{IsNumberBy}
use Rattle.liquid.specs.Numbers.{number_of_confidential_error, number_of_confidential_encode_error}
use Rattle.bech32_more_calls.specs.declared.confidential.refusal.Refusal.{Refusal}
use Rattle.bech32_more_calls.specs.declared.confidential.refusal.Refusal.TheVariants.{
  Other,
  NoAddress,
  Address,
}

-- of any refusal
abbrev pub number_of_liquid : Refusal → ℕ
number_of_liquid (Other e) = other.number_of e
number_of_liquid (NoAddress e) = number_of_confidential_encode_error e
number_of_liquid (Address e) = number_of_confidential_error e

-- the number is that of a refusal, of which P holds
abbrev pub IsNumberOfLiquid : (Refusal → Type 0) → ℕ → Type 0
IsNumberOfLiquid P n = IsNumberBy number_of_liquid P n
