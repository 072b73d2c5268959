use Rattle.std.proofs.Common.{◌≢◌, ◌<◌, ℕ, get_or}
use Rattle.bech32_gf.specs.Field.{power}
use Rattle.bech32_gf.proofs.field.MultiplicativeOrder.multiplicative_order.Given as goal

abbrev pub invariant-loop-divisor : goal.invariant-loop-divisor
invariant-loop-divisor g l =
    (k : ℕ) → k < l.divisor-index → power g.Self.Arithmetic.ops l.self (get_or g.Self.Field.divisors k 0) ≢ g.Self.Arithmetic.ops.one
