use Rattle.std.proofs.Common.{◌≡◌}
use Rattle.bech32_small.proofs.Scaled.{scaled_upto}
use Rattle.bech32_small.proofs.rows.times.Given as goal

abbrev pub invariant-loop-i : goal.invariant-loop-i
invariant-loop-i l = l.product ≡ scaled_upto l.element l.row l.i
