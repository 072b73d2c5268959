use Rattle.std.proofs.Common.{arith, get_or, ◌+◌, ◌-◌, ◌%◌}
use Rattle.bech32_gf.specs.Gf32.{inverse}
use Rattle.bech32_gf.specs.laws.Gf32Laws.{inverse-lt}
use Rattle.bech32_gf.proofs.Logarithms.{quotient_by_logs as by_logs, LOG-lt, POWERS-lt, zero-product}
use Rattle.bech32_gf.specs.declared.gf32.TheConstants.{LOG}
use Rattle.bech32_gf.proofs.gf32.operators.quotient_by_logs.Goals as goal

pub returns-then-a-eq0-clause-value : goal.returns-then-a-eq0-clause-value
returns-then-a-eq0-clause-value c =
    rw c.if-a-eq0.true (zero-product (inverse c.args.b) (inverse-lt c.args.b c.requires.b_in_field))

pub overflow_add-difference : goal.overflow_add-difference
overflow_add-difference c = omega (arith, LOG-lt c.args.a c.requires.a_in_field)

pub overflow_sub-difference : goal.overflow_sub-difference
overflow_sub-difference c = omega (arith, LOG-lt c.args.b c.requires.b_in_field)

pub returns-clause-value : goal.returns-clause-value
returns-clause-value c = by_logs c.args.a c.args.b c.requires.a_in_field c.requires.b_in_field c.if-a-eq0.false c.requires.nonzero

pub returns-clause-in_field : goal.returns-clause-in_field
returns-clause-in_field c = POWERS-lt ((31 + get_or LOG c.args.a 0 - get_or LOG c.args.b 0) % 31) (omega arith)
