use Rattle.bech32_segwit.proofs.decode.Goals as goal

pub returns-clause-value : goal.returns-clause-value
returns-clause-value c = c.decode_in.ensures.value

pub returns-clause-part : goal.returns-clause-part
returns-clause-part c = c.decode_in.ensures.part

pub returns-clause-accepts : goal.returns-clause-accepts
returns-clause-accepts c = c.decode_in.ensures.accepts

pub returns-clause-refused : goal.returns-clause-refused
returns-clause-refused c = c.decode_in.ensures.refused

pub returns-clause-spelling : goal.returns-clause-spelling
returns-clause-spelling c = c.decode_in.ensures.spelling
