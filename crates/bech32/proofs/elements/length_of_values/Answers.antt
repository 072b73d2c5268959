use Rattle.std.proofs.lemmas.Result.{err_from_is_err_and}
use Rattle.bech32.proofs.elements.length_of_values.Goals as goal

pub returns-in_err-length : goal.returns-in_err-length
returns-in_err-length g c =
    let p = err_from_is_err_and c.from_residual.result c.from_residual.ensures.1 in
    rw p.1 (rw p.2 (rw c.as_bytes.ensures at c.in_err-length.ensures))

pub returns-in-Some : goal.returns-in-Some
returns-in-Some g c =
    let fits = rw c.as_bytes.ensures at c.in_ok-length.ensures in
    (fits.1, c.in-Some.ensures)

pub returns : goal.returns
returns g c =
    let fits = rw c.as_bytes.ensures at c.in_ok-length.ensures in
    (fits.0, fits.1, c.in_default.ensures)
