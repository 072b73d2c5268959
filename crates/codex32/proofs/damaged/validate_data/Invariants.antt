use Rattle.std.proofs.Common.{◌≡◌, ℕ, true, List, ◌++◌, length}
use Rattle.std.specs.Str.Iter.{chars_rest}
use Rattle.bech32_gf.specs.Alphabet.{is_data}
use Rattle.codex32.specs.Damaged.{read_data}
use Rattle.codex32.proofs.damaged.validate_data.Given as goal

-- the characters that were passed may stand there, as they are read
abbrev pub invariant-behind : goal.invariant-behind
invariant-behind l = (behind : List ℕ) × (l.damaged ≡ chars_rest l.front ++ behind) × (is_data (read_data behind) ≡ true)

abbrev pub decreases-behind : goal.decreases-behind
decreases-behind l = length (chars_rest l.front)
