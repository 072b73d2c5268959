use Rattle.std.proofs.Common.{◌++◌, codes, inl, refl}
use Rattle.line_program.proofs.Pieces.{two-pieces}
use Rattle.mend.proofs.descriptors.descriptor_checksum.Goals as goal

pub returns-in-Ok-clause-answer : goal.returns-in-Ok-clause-answer
returns-in-Ok-clause-answer c = (
  codes "ok " ++ c.in-Ok.letters,
  inl (c.in-Ok.letters, rw c.as_bytes.ensures.value at c.in-Ok.ensures, refl),
  two-pieces c.args.out.now.items (codes "ok ") c.in-Ok.letters _ _ c.append.ensures.items c.append-in-Ok.ensures.items,
)
