use Rattle.std.proofs.Common.{◌∙◌}
use Rattle.codex32_small.proofs.Checksums.{generator-long, generator-short, target-long, target-short}
use Rattle.codex32_small.proofs.register.coefficient_at.Goals as goal

pub returns-in-Short : goal.returns-in-Short
returns-in-Short c = rw (c.in-Generator.is, c.in-Short.is) (c.from_low_bits.ensures ∙ generator-short c.args.i)

pub returns-in-Long : goal.returns-in-Long
returns-in-Long c = rw (c.in-Generator.is, c.in-Long.is) (c.from_low_bits-in-Long.ensures ∙ generator-long c.args.i)

pub returns-in-Short-kind : goal.returns-in-Short-kind
returns-in-Short-kind c = rw (c.in-Target.is, c.in-Short-kind.is) (c.from_low_bits-in-Short-kind.ensures ∙ target-short c.args.i)

pub returns-in-Long-kind : goal.returns-in-Long-kind
returns-in-Long-kind c = rw (c.in-Target.is, c.in-Long-kind.is) (c.from_low_bits-in-Long-kind.ensures ∙ target-long c.args.i)
