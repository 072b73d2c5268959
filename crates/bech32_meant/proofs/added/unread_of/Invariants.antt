use Rattle.std.proofs.Common.{◌≡◌, ◌+◌, ◌++◌, drop, length}
use Rattle.bech32_suggest.specs.Typed.{unread_locations}
use Rattle.bech32_meant.proofs.added.unread_of.Given as goal

-- the locations among the characters that were passed
abbrev pub invariant-loop-c : goal.invariant-loop-c
invariant-loop-c g l = record {
  place : l.location + l.c-index ≡ length l.frame;
  so_far : l.locations.items ++ unread_locations (drop l.c-index l.frame) ≡ unread_locations l.frame;
}
