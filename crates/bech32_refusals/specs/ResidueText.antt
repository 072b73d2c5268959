-- The text of a residue, as messages have it.
use Rattle.std.specs.Prelude.{ℕ, List, [], ◌∷◌, ◌==◌, if◌then◌else◌, map}
use Rattle.std.specs.List.{list_all}
use Rattle.bech32_gf.specs.Alphabet.{char_of}
use Rattle.bech32_gf.specs.declared.gf32.Fe32.{Fe32}

-- the coefficients up to the last that is not zero, and one of zero: the first, and those behind it
-- where not all of them are zero
abbrev pub shown : List Fe32 → List Fe32
shown [] = []
shown (x ∷ xs) = x ∷ (if list_all (λ (y : Fe32). y.value == 0) xs then [] else shown xs)

-- their characters, that of the constant term first
abbrev pub residue_text : List Fe32 → List ℕ
residue_text coefficients = map (λ (x : Fe32). char_of x.value) (shown coefficients)
