use Rattle.bech32_more_calls.proofs.columns.encode.encode_row.Goals as goal

pub returns-in-Ok-clause-full : goal.returns-in-Ok-clause-full
returns-in-Ok-clause-full c = rw c.in-Ok.ensures c.encode_program.ensures.full
