-- Bytes as elements.
use Rattle.std.specs.Prelude.{ℕ, ◌/◌, ◌^◌, List, [], ◌∷◌}
use Rattle.bech32_gf.specs.Fe32.{element}
use Rattle.bech32_gf.specs.declared.gf32.Fe32.{Fe32}

-- the elements of the lowest five bits of a number's eight bytes, the highest first
abbrev pub byte_elements : ℕ → List Fe32
byte_elements n =
    element (n / 2 ^ 56) ∷ element (n / 2 ^ 48) ∷ element (n / 2 ^ 40) ∷ element (n / 2 ^ 32)
    ∷ element (n / 2 ^ 24) ∷ element (n / 2 ^ 16) ∷ element (n / 2 ^ 8) ∷ element (n / 2 ^ 0) ∷ []
