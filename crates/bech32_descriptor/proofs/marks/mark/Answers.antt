use Rattle.bech32_descriptor.proofs.SetBits.{is_marked, keeps_marks}
use Rattle.bech32_descriptor.proofs.marks.mark.Goals as goal

pub returns-clause-marked : goal.returns-clause-marked
returns-clause-marked c = rw c.bits.ensures (is_marked c.args.cells.now c.args.word c.requires)

pub returns-clause-kept : goal.returns-clause-kept
returns-clause-kept c = rw c.bits.ensures (keeps_marks c.args.cells.now c.args.word c.requires)
