use Rattle.std.proofs.Common.{ℕ, ◌<◌}
use Rattle.codex32.specs.Split.{IsPayloadString, drawn_for, split_index, string_size, text_at}
use Rattle.codex32.proofs.dealing.put_all_drawn.Given as goal

-- the first shares are put
abbrev pub invariant-loop-j : goal.invariant-loop-j
invariant-loop-j l = (k : ℕ) → k < l.j → IsPayloadString l.threshold l.identifier (split_index k) (drawn_for l.size l.random k) (text_at (string_size l.size) l.texts k)
