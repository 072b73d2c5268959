use Rattle.bech32_decode.proofs.address.SegwitHrpstring.byte_iter.Goals as goal

pub returns : goal.returns
returns c = c.new.ensures
