use Rattle.bech32_decode.proofs.checked.CheckedHrpstring.fe32_iter.Goals as goal

pub returns : goal.returns
returns c = c.new.ensures
