use Rattle.std.proofs.Common.{◌≡◌, ◌≤◌, ◌+◌, take}
use Rattle.std.specs.Fmt.{decimal}
use Rattle.b32_replies.proofs.location_word.location_of_word.Given as goal

abbrev pub invariant-loop-byte : goal.invariant-loop-byte
invariant-loop-byte l = record {
  few : l.number ≤ 1029;
  spelled : take (1 + l.byte-index) l.word ≡ decimal l.number;
}
