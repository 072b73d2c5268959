-- How texts that were found are said.
use Rattle.std.specs.Prelude.{ℕ, List, ◌∷◌, ◌++◌}
use Rattle.std.specs.Fmt.{decimal}

-- a word, a place and a text, each with a space before it
abbrev pub said_of_found : List ℕ → ℕ → List ℕ → List ℕ
said_of_found word place text = (32 ∷ word) ++ ((32 ∷ decimal place) ++ (32 ∷ text))
