-- How long the lines are that are answered.
use Rattle.std.specs.Prelude.{ℕ, ◌+◌, List, take}

-- no program answers a line of more bytes than this
abbrev pub longest_line : ℕ
longest_line = 16384

-- how many bytes are kept of a line that may have so many: one more shows that it is too long
abbrev pub kept_of_line : ℕ → ℕ
kept_of_line limit = limit + 1

-- what is kept of it
abbrev pub kept : ℕ → List ℕ → List ℕ
kept limit line = take (kept_of_line limit) line
