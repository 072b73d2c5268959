use Rattle.std.proofs.Common.{◌≡◌, ◌≤◌, None, drop, length}
use Rattle.bech32_decode.specs.Text.{split_at_last}
use Rattle.codex32.proofs.damaged.cut.Given as goal

-- no `1` is among the bytes that were passed
abbrev pub invariant-behind : goal.invariant-behind
invariant-behind l = record {
  inside : l.at ≤ length l.bytes;
  none : split_at_last (drop l.at l.bytes) ≡ None;
}

abbrev pub decreases-behind : goal.decreases-behind
decreases-behind l = l.at
