-- Why words have no block.
use Rattle.std.specs.Prelude.{◌≡◌, ◌≢◌, ◌<◌, ◌≤◌, ℕ, List, length, map}
use Rattle.bech32_block.specs.Refusals.{IsPrintRefusal}
use Rattle.bech32_block.specs.Roots.{RootField}
use Rattle.bech32_gf.specs.Fe32.{element_of}
use Rattle.bech32_gf.specs.declared.gf32.Fe32.{Fe32}
use Rattle.print_block.specs.Words.{IsOfAlphabet}
use Rattle.print_block.specs.declared.error.BlockError.{BlockError}
use Rattle.print_block.specs.declared.error.BlockError.TheVariants.{Name, Character, Generator}
use Rattle.print_block.specs.declared.error.BlockError.TheVariants.{Target, Print, Memory}

-- a byte is not a character of the alphabet, or out of memory
abbrev pub IsWordRefusal : List ℕ → BlockError → Type 0
IsWordRefusal word (Character c) = IsOfAlphabet word → ⊥
IsWordRefusal word Memory = Unit {0}
IsWordRefusal word Name = ⊥
IsWordRefusal word Generator = ⊥
IsWordRefusal word Target = ⊥
IsWordRefusal word (Print e) = ⊥

-- the first of: not 1 to 25 coefficients; a target with another number of them; no block. Or out of
-- memory.
abbrev pub IsElementsRefusal : {E : Type 0} → RootField E → List Fe32 → List Fe32 → BlockError
    → Type 0
IsElementsRefusal f generator target Generator =
    (0 < length generator) × (length generator ≤ 25) → ⊥
IsElementsRefusal f generator target Target =
    (0 < length generator) × (length generator ≤ 25) × (length target ≢ length generator)
IsElementsRefusal f generator target (Print e) =
    (0 < length generator) × (length generator ≤ 25) × (length target ≡ length generator)
    × IsPrintRefusal f generator e
IsElementsRefusal f generator target Memory = Unit {0}
IsElementsRefusal f generator target Name = ⊥
IsElementsRefusal f generator target (Character c) = ⊥

-- both words are of the alphabet, and something holds of their elements
abbrev pub OfElements : (List Fe32 → List Fe32 → Type 0) → List ℕ → List ℕ → Type 0
OfElements holds generator target =
    IsOfAlphabet generator × IsOfAlphabet target
    × holds (map element_of generator) (map element_of target)

-- the first of: no name; a byte of one of the words is not a character of the alphabet; what is
-- wrong with their elements. Or out of memory, where there is a name.
abbrev pub IsWordsRefusal : {E : Type 0} → RootField E → List ℕ → List ℕ → List ℕ → BlockError
    → Type 0
IsWordsRefusal f name generator target Name = length name ≡ 0
IsWordsRefusal f name generator target (Character c) =
    (length name ≢ 0) × (IsOfAlphabet generator → IsOfAlphabet target → ⊥)
IsWordsRefusal f name generator target Generator =
    (length name ≢ 0) × OfElements (λ g t. IsElementsRefusal f g t Generator) generator target
IsWordsRefusal f name generator target Target =
    (length name ≢ 0) × OfElements (λ g t. IsElementsRefusal f g t Target) generator target
IsWordsRefusal f name generator target (Print e) =
    (length name ≢ 0) × OfElements (λ g t. IsElementsRefusal f g t (Print e)) generator target
IsWordsRefusal f name generator target Memory = length name ≢ 0
