use Rattle.bech32_segwit.proofs.unchecked.encode_lower_to_fmt_unchecked.Goals as goal

pub returns : goal.returns
returns g c = c.front_to_fmt.ensures
