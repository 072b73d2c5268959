use Rattle.bech32_segwit.proofs.unchecked.encode_upper_to_writer_unchecked.Goals as goal

pub returns-clause-ok : goal.returns-clause-ok
returns-clause-ok g c = c.front_to_writer.ensures.ok

pub returns-clause-beginning : goal.returns-clause-beginning
returns-clause-beginning g c = c.front_to_writer.ensures.beginning
