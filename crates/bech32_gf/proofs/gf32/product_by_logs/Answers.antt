use Rattle.std.proofs.Common.{arith, get_or, ◌+◌, ◌%◌}
use Rattle.bech32_gf.proofs.Logarithms.{product_by_logs as by_logs, LOG-lt, POWERS-lt, zero-product, product-zero}
use Rattle.bech32_gf.specs.declared.gf32.TheConstants.{LOG}
use Rattle.bech32_gf.proofs.gf32.product_by_logs.Goals as goal

pub returns-then-a-eq0-clause-value : goal.returns-then-a-eq0-clause-value
returns-then-a-eq0-clause-value c =
    grind (arith, zero-product c.args.b c.requires.b_in_field, product-zero c.args.a c.requires.a_in_field)

pub overflow_add-sum : goal.overflow_add-sum
overflow_add-sum c = omega (arith, LOG-lt c.args.a c.requires.a_in_field, LOG-lt c.args.b c.requires.b_in_field)

pub returns-clause-value : goal.returns-clause-value
returns-clause-value c = by_logs c.args.a c.args.b c.requires.a_in_field c.requires.b_in_field (omega arith) (omega arith)

pub returns-clause-in_field : goal.returns-clause-in_field
returns-clause-in_field c = POWERS-lt ((get_or LOG c.args.a 0 + get_or LOG c.args.b 0) % 31) (omega arith)
