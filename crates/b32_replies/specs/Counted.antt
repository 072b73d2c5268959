-- As many words as are asked for, none of them empty.
use Rattle.std.specs.Prelude.{ℕ, if◌then◌else◌, List, [], ◌∷◌, Option, Some, None}
use Rattle.line_program.specs.Words.{is_empty}

-- one
abbrev pub one_of : List (List ℕ) → Option (List ℕ)
one_of [] = None
one_of (word ∷ []) = if is_empty word then None else Some word
one_of (word ∷ other ∷ more) = None

-- a word before what is there
abbrev pub with_first : {A : Type 0} → List ℕ → Option A → Option (List ℕ × A)
with_first word None = None
with_first word (Some others) = Some (word, others)

-- a word, and what the words behind it give
abbrev pub first_and : {A : Type 0} → (List (List ℕ) → Option A) → List (List ℕ)
    → Option (List ℕ × A)
first_and others_of [] = None
first_and others_of (word ∷ others) =
    if is_empty word then None else with_first word (others_of others)

-- two, three, four
abbrev pub two_of : List (List ℕ) → Option (List ℕ × List ℕ)
two_of all = first_and one_of all

abbrev pub three_of : List (List ℕ) → Option (List ℕ × (List ℕ × List ℕ))
three_of all = first_and two_of all

abbrev pub four_of : List (List ℕ) → Option (List ℕ × (List ℕ × (List ℕ × List ℕ)))
four_of all = first_and three_of all
