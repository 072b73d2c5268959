-- A word that lists locations: numbers up to 1022 in decimal, with commas between them.
use Rattle.std.specs.Prelude.{◌≡◌, ◌≤◌, ◌==◌, ℕ, List, ◌∷◌, map}
use Rattle.std.specs.Fmt.{decimal}
use Rattle.std.specs.List.{AllByRecursion, slice_split}

-- what stands before, between and behind the commas
abbrev pub pieces : List ℕ → List (List ℕ)
pieces word = slice_split (λ b. b == 44) word

-- the word lists these locations
pub record AreLocations (word given : List ℕ) : Type 0 where
  pub pieces_are : pieces word ≡ map decimal given
  pub below : AllByRecursion (λ i. i ≤ 1022) given

-- it lists none
abbrev pub IsNoListOfLocations : List ℕ → Type 0
IsNoListOfLocations word = (given : List ℕ) → AreLocations word given → ⊥
