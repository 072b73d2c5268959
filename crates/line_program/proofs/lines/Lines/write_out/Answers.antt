use Rattle.line_program.proofs.lines.Lines.write_out.Goals as goal

pub returns-in-Ok-clause-ok : goal.returns-in-Ok-clause-ok
returns-in-Ok-clause-ok g c = rw c.as_slice.ensures.value at c.in-Ok.ensures.ok
