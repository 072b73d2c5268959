use Rattle.std.proofs.Common.{◌≤◌}
use Rattle.bech32_suggest.specs.Mendings.{common_length}
use Rattle.bech32_suggest.proofs.mendings.common.Given as goal

-- they are the same so far
abbrev pub invariant-loop-i : goal.invariant-loop-i
invariant-loop-i l = l.i ≤ common_length l.typed l.text
