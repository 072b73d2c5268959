use Rattle.bech32_decode.proofs.unchecked.parts_in.Goals as goal

pub returns : goal.returns
returns c = c.parts_by.ensures
