-- What is wrong with what a call is given.
use Rattle.std.specs.Prelude.{ℕ}
use Rattle.bech32_numbers.specs.Refused.{IsNumberBy}
use Rattle.codex32_calls.specs.Numbers.{number_of_codex32_refusal}
use Rattle.codex32_calls.specs.declared.refusal.Refusal.{Refusal}

-- the number is that of a refusal, of which P holds
abbrev pub IsNumberOfCodex32 : (Refusal → Type 0) → ℕ → Type 0
IsNumberOfCodex32 P n = IsNumberBy number_of_codex32_refusal P n
