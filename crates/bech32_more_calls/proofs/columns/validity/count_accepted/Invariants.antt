use Rattle.std.proofs.Common.{◌≡◌, ◌≤◌, ◌+◌, drop}
use Rattle.bech32_more_calls.specs.columns.Validity.{accepted_of}
use Rattle.bech32_more_calls.proofs.columns.validity.count_accepted.Given as goal

-- those so far and those to come
abbrev pub invariant-loop-number : goal.invariant-loop-number
invariant-loop-number l = record {
  few : l.accepted ≤ l.number-index;
  sum : l.accepted + accepted_of (drop l.number-index l.numbers) ≡ accepted_of l.numbers;
}
