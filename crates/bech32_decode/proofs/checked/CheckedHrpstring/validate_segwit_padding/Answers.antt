use Rattle.bech32_decode.proofs.checked.CheckedHrpstring.validate_segwit_padding.Goals as goal

pub returns : goal.returns
returns c = c.validate_padding.ensures
