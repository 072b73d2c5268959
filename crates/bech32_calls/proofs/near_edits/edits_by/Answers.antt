use Rattle.bech32_calls.proofs.near_edits.edits_by.Goals as goal

pub returns-in-1 : goal.returns-in-1
returns-in-1 g c = rw c.in-1.is (rw c.by_bech32.ensures.text at c.near_edits_of_reading.ensures)
