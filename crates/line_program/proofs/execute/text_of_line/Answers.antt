use Rattle.std.proofs.Common.{inl, inr, refl}
use Rattle.line_program.proofs.execute.text_of_line.Goals as goal

pub returns-then-line-limit-clause-text : goal.returns-then-line-limit-clause-text
returns-then-line-limit-clause-text c = inl (c.if-line-limit.true, refl)

pub returns-in_default-clause-text : goal.returns-in_default-clause-text
returns-in_default-clause-text c = inr (c.if-line-limit.false, c.in_default.ensures, refl)

pub returns-clause-text : goal.returns-clause-text
returns-clause-text c = record { same = c.in-Some.ensures.0; short = c.if-line-limit.false; utf8 = c.in-Some.ensures.1 }
