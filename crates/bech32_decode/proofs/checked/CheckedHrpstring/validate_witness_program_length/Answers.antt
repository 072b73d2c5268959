use Rattle.bech32_decode.proofs.checked.CheckedHrpstring.validate_witness_program_length.Goals as goal

pub returns : goal.returns
returns c = c.validate_program_length.ensures
