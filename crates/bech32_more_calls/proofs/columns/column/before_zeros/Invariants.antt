use Rattle.std.proofs.Common.{◌≡◌, ◌==◌, ◌+◌, ◌≤◌, length, take}
use Rattle.std.specs.List.{suffix_len}
use Rattle.bech32_more_calls.proofs.columns.column.before_zeros.Given as goal

-- the bytes behind the end so far are zeros
abbrev pub invariant-loop-end : goal.invariant-loop-end
invariant-loop-end l =
    (l.end ≤ length l.bytes) × (l.end + suffix_len (λ b. b == 0) l.bytes ≡ length l.bytes + suffix_len (λ b. b == 0) (take l.end l.bytes))

abbrev pub decreases-loop-end : goal.decreases-loop-end
decreases-loop-end l = l.end
