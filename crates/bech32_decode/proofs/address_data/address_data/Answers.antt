use Rattle.bech32_decode.proofs.address_data.address_data.Goals as goal

pub returns : goal.returns
returns c = c.data_of_version.ensures c.args.text_length c.in_ok-validate_sizes.ensures.0
