-- What vectors of field elements hold without memory.
use Rattle.std.specs.Prelude.{ℕ, ◌≤◌}

-- this many elements fit in the places of the vector itself
abbrev pub FitsInPlace : ℕ → Type 0
FitsInPlace n = n ≤ 7
