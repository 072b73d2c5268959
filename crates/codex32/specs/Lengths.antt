-- How many characters strings may have, by which strings are meant.
use Rattle.std.specs.Prelude.{ℕ, Bool}
use Rattle.codex32.specs.Strings.{is_within, is_within_long, is_within_either}
use Rattle.codex32.specs.declared.lengths.Lengths.{Lengths}
use Rattle.codex32.specs.declared.lengths.Lengths.TheVariants.{Short, Long, Either}

abbrev pub may_have : Lengths → ℕ → Bool
may_have Short n = is_within n
may_have Long n = is_within_long n
may_have Either n = is_within_either n
