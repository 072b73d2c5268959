use Rattle.mend.proofs.edits.edits_by.Goals as goal

pub returns-in-Bech32 : goal.returns-in-Bech32
returns-in-Bech32 c = rw c.in-Bech32.is c.near_edits.ensures

pub returns-in-Bech32m : goal.returns-in-Bech32m
returns-in-Bech32m c = rw c.in-Bech32m.is c.near_edits-in-Bech32m.ensures
