use Rattle.std.proofs.Common.{ℕ, ◌+◌, ◌<◌}
use Rattle.codex32.specs.Derive.{IsDerivedString, size_of}
use Rattle.codex32.specs.Split.{split_index, text_at}
use Rattle.codex32.proofs.dealing.put_all_derived.Given as goal

-- the first of the others are put
abbrev pub invariant-loop-j : goal.invariant-loop-j
invariant-loop-j l = (k : ℕ) → k < l.j → IsDerivedString l.base (split_index (l.from + k)) (text_at (3 + size_of l.base) l.texts k)
