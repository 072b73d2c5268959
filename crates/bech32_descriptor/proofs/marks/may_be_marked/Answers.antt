use Rattle.std.proofs.lemmas.Bool.{eq-eqb}
use Rattle.bech32_descriptor.proofs.marks.may_be_marked.Goals as goal

pub returns : goal.returns
returns c h = eq-eqb _ _ (rw c.bits-wanted.ensures h)
