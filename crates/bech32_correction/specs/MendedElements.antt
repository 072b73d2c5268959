-- Elements and texts with errors taken out.
use Rattle.std.specs.Prelude.{◌≡◌, ℕ, List, [], ◌∷◌, ◌++◌, length, map}
use Rattle.bech32_gf.specs.Field.{Ops}
use Rattle.bech32_gf.specs.declared.gf32.Fe32.{Fe32}
use Rattle.bech32_poly.specs.Pattern.{value_of_pattern_at}
use Rattle.bech32_checksum.specs.Encoded.{char_of_element}

-- the elements with the values of a pattern added, each to the element that has as many elements
-- behind it as the location says
abbrev pub mended : {F : Type 0} → Ops F → List (ℕ × F) → List F → List F
mended f e [] = []
mended f e (x ∷ xs) = f.add x (value_of_pattern_at f e (length xs)) ∷ mended f e xs

-- the text ends in the lower-case characters of these elements
abbrev pub EndsIn : List ℕ → List ℕ → List Fe32 → Type 0
EndsIn text front elements = text ≡ front ++ map char_of_element elements
