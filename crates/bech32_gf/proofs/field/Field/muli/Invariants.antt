use Rattle.std.proofs.Common.{◌≡◌}
use Rattle.bech32_gf.specs.Field.{multiple, signed_multiple}
use Rattle.bech32_gf.proofs.field.Field.muli.Given as goal

abbrev pub invariant-loop-times : goal.invariant-loop-times
invariant-loop-times g l =
    g.Self.Arithmetic.ops.add l.sum (multiple g.Self.Arithmetic.ops l.base l.times) ≡ signed_multiple g.Self.Arithmetic.ops l.self l.n

abbrev pub decreases-loop-times : goal.decreases-loop-times
decreases-loop-times g l = l.times
