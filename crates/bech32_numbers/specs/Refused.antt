-- A number that stands for a refusal.
use Rattle.std.specs.Prelude.{◌≡◌, ℕ}

-- the number is that of a refusal of which P holds
pub record IsNumberBy {E : Type 0} (number_of : E → ℕ) (P : E → Type 0) (n : ℕ) : Type 0 where
  pub refusal : E
  pub holds : P refusal
  pub number : n ≡ number_of refusal
