use Rattle.bech32.proofs.encode_upper_in.Goals as goal

pub returns-clause-text : goal.returns-clause-text
returns-clause-text g c = (_, c.in_ok-text.ensures.text, c.make_ascii_uppercase.ensures.bytes)
