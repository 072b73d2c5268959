use Rattle.bech32_near.proofs.edits.places.element_or_zero.Goals as goal

pub returns : goal.returns
returns c _ = c.element_at.ensures
