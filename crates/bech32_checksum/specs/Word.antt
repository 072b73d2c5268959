-- Words of 40 bits as eight elements.
use Rattle.std.specs.Prelude.{ℕ, ◌/◌, ◌^◌, List, [], ◌∷◌}
use Rattle.bech32_gf.specs.Fe32.{element}
use Rattle.bech32_gf.specs.declared.gf32.Fe32.{Fe32}
use Rattle.bech32_checksum.specs.Code.{Code, IsResidueAfter}

-- the eight elements of a word's lowest forty bits, the highest first
abbrev pub word_elements : ℕ → List Fe32
word_elements n =
    element (n / 2 ^ 35) ∷ element (n / 2 ^ 30) ∷ element (n / 2 ^ 25) ∷ element (n / 2 ^ 20)
    ∷ element (n / 2 ^ 15) ∷ element (n / 2 ^ 10) ∷ element (n / 2 ^ 5) ∷ element (n / 2 ^ 0) ∷ []

-- the six elements of a row's lowest thirty bits, the highest first
abbrev pub row_elements : ℕ → List Fe32
row_elements n =
    element (n / 2 ^ 25) ∷ element (n / 2 ^ 20) ∷ element (n / 2 ^ 15) ∷ element (n / 2 ^ 10)
    ∷ element (n / 2 ^ 5) ∷ element (n / 2 ^ 0) ∷ []

-- the two elements of a number's lowest ten bits, the higher first
abbrev pub two_elements : ℕ → List Fe32
two_elements n = element (n / 2 ^ 5) ∷ element (n / 2 ^ 0) ∷ []

-- whatever polynomial `old` is the residue of, `new` is that of the same with the elements of a
-- word behind it
abbrev pub IsResidueAfterWord : {R : Type 0} → (R → ℕ) → Code → R → ℕ → R → Type 0
IsResidueAfterWord number code old word new =
    IsResidueAfter number code old (word_elements word) new

-- the same with the two elements of a number
abbrev pub IsResidueAfterTwo : {R : Type 0} → (R → ℕ) → Code → R → ℕ → R → Type 0
IsResidueAfterTwo number code old two new = IsResidueAfter number code old (two_elements two) new
