use Rattle.bech32_segwit.proofs.unchecked.encode_to_writer_unchecked.Goals as goal

pub returns-clause-ok : goal.returns-clause-ok
returns-clause-ok g c = c.encode_lower_to_writer_unchecked.ensures.ok

pub returns-clause-beginning : goal.returns-clause-beginning
returns-clause-beginning g c = c.encode_lower_to_writer_unchecked.ensures.beginning
