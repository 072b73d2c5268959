-- The elements of integers.
use Rattle.std.specs.Prelude.{◌≡◌, ◌≤◌, ◌≤ℤ◌, ℤ, pos, Result, MatchResult}
use Rattle.bech32_gf.specs.declared.gf32.Fe32.{Fe32}
use Rattle.bech32_gf.specs.declared.gf32.conversions.TryFromError.{TryFromError}
use Rattle.bech32_gf.specs.declared.gf32.conversions.TryFromError.TheVariants.{NotAByte}
use Rattle.bech32_gf.specs.declared.gf32.conversions.TryFromError.TheVariants.{InvalidByte}

-- an integer is refused because it is not a byte, or because it is a byte from 32 on, which is told
abbrev pub IsTryFromRefusal : ℤ → TryFromError → Type 0
IsTryFromRefusal n (NotAByte e) = ¬ (pos 0 ≤ℤ n × n ≤ℤ pos 255)
IsTryFromRefusal n (InvalidByte b) = (pos b ≡ n) × (32 ≤ b) × (b ≤ 255)

-- an integer gives the element of that value, or is refused
abbrev pub GivesElement : ℤ → Result Fe32 TryFromError → Type 0
GivesElement n r = MatchResult r (λ x. pos x.value ≡ n) (IsTryFromRefusal n)
