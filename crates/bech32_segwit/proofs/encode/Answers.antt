use Rattle.bech32_segwit.proofs.encode.Goals as goal

pub returns-clause-text : goal.returns-clause-text
returns-clause-text c = c.encode_in.ensures.text

pub returns-clause-exists : goal.returns-clause-exists
returns-clause-exists c = c.encode_in.ensures.exists

pub returns-clause-refused : goal.returns-clause-refused
returns-clause-refused c = c.encode_in.ensures.refused

pub returns-clause-spelling : goal.returns-clause-spelling
returns-clause-spelling c = c.encode_in.ensures.spelling
