use Rattle.bech32_segwit.proofs.unchecked.encode_to_fmt_unchecked.Goals as goal

pub returns : goal.returns
returns g c = c.encode_lower_to_fmt_unchecked.ensures
