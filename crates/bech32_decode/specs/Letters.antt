-- How many letters of a case there are among bytes.
use Rattle.std.specs.Prelude.{ℕ, ◌+◌, Bool, if◌then◌else◌, List, [], ◌∷◌}

-- how many of some bytes pass a test
abbrev pub letter_count : (ℕ → Bool) → List ℕ → ℕ
letter_count is_letter [] = 0
letter_count is_letter (b ∷ bytes) =
    (if is_letter b then 1 else 0) + letter_count is_letter bytes
