-- The words of a line: they are separated by exactly one space.
use Rattle.std.specs.Prelude.{ℕ, Bool, true, false, ◌==◌, if◌then◌else◌, List, [], ◌∷◌}
use Rattle.std.specs.Prelude.{◌≡◌, Option, Some, None, MatchOption}
use Rattle.std.specs.List.{slice_split, list_any}

-- what stands before, between and behind the spaces
abbrev pub words : List ℕ → List (List ℕ)
words line = slice_split (λ b. b == 32) line

-- whether a word has no byte
abbrev pub is_empty : List ℕ → Bool
is_empty [] = true
is_empty (b ∷ bs) = false

-- whether a line has an empty word
abbrev pub has_empty_word : List ℕ → Bool
has_empty_word line = list_any is_empty (words line)

-- what was read is what is asked for, and nothing was read where nothing is asked for
abbrev pub Reads : {Command Request : Type 0} → (Command → Request) → Option Request
    → Option Command → Type 0
Reads request_of asked read =
    MatchOption read (asked ≡ None) (λ command. asked ≡ Some (request_of command))

-- what a line asks for, by what its words ask for: nothing where one of them is empty
abbrev pub request_by : {Request : Type 0} → (List (List ℕ) → Option Request) → List ℕ
    → Option Request
request_by of_words line = if has_empty_word line then None else of_words (words line)
