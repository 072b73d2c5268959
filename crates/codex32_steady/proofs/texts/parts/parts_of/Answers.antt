use Rattle.codex32_steady.proofs.texts.parts.parts_of.Goals as goal

pub returns : goal.returns
returns c = c.parts_by.ensures
