use Rattle.std.proofs.Common.{◌≡◌, ◌≤◌, ◌+◌, drop, length}
use Rattle.bech32_suggest.specs.Typed.{unread_locations}
use Rattle.bech32_suggest.proofs.typed.count_unreadable.Given as goal

-- how many were passed
abbrev pub invariant-loop-c : goal.invariant-loop-c
invariant-loop-c l = record {
  so_far : l.count + length (unread_locations (drop l.c-index l.typed)) ≡ length (unread_locations l.typed);
  few : l.count ≤ l.c-index;
}
