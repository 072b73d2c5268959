use Rattle.std.proofs.lemmas.Result.{err_from_is_err_and}
use Rattle.bech32_near.proofs.edits.texts.near_edits.Goals as goal

pub returns-in_err-near_edits_of_reading : goal.returns-in_err-near_edits_of_reading
returns-in_err-near_edits_of_reading g c =
    let p = err_from_is_err_and c.from_residual-in_err-near_edits_of_reading.result c.from_residual-in_err-near_edits_of_reading.ensures.1 in
    rw p.1 (rw p.2 (rw c.in_ok-reading.ensures.value at c.in_err-near_edits_of_reading.ensures))

pub returns : goal.returns
returns g c = rw c.in_ok-reading.ensures.value at c.in_ok-near_edits_of_reading.ensures
