use Rattle.bech32.proofs.decode.Goals as goal

pub returns-clause-value : goal.returns-clause-value
returns-clause-value c = c.decode_in.ensures.value

pub returns-clause-accepts : goal.returns-clause-accepts
returns-clause-accepts c = c.decode_in.ensures.accepts

pub returns-clause-refused : goal.returns-clause-refused
returns-clause-refused c = c.decode_in.ensures.refused

pub returns-clause-back : goal.returns-clause-back
returns-clause-back c = c.decode_in.ensures.back
