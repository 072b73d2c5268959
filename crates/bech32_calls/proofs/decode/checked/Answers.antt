use Rattle.std.proofs.lemmas.Result.{err_from_is_err_and}
use Rattle.bech32_calls.specs.Faults.{refusal_of_bytes}
use Rattle.bech32_calls.proofs.Checking.{refused_there, unread_check}
use Rattle.bech32_calls.proofs.Unread.{unread}
use Rattle.bech32_calls.proofs.decode.checked.Goals as goal

pub returns-in_err-reading : goal.returns-in_err-reading
returns-in_err-reading g c =
    let p = err_from_is_err_and c.from_residual.result c.from_residual.ensures.1 in
    rw p.1 (rw p.2 (unread_check c.args.bytes.now g.Ck.Checksum.code (refusal_of_bytes c.in_err-reading.field-0.0) (unread c.args.bytes.now c.in_err-reading.field-0.0 c.in_err-reading.ensures)))

pub returns-in_err-validate : goal.returns-in_err-validate
returns-in_err-validate g c =
    let r = c.in_ok-reading.reading in
    let p = err_from_is_err_and c.from_residual-in_err-validate.result c.from_residual-in_err-validate.ensures.1 in
    rw p.1 (rw p.2 (refused_there c.args.bytes.now r.hrp.now r.data_part.now g.Ck.Checksum.code c.in_err-validate.field-0.0
    (rw c.in_ok-reading.ensures at r.is_reading.grammar) (rw c.in_ok-reading.ensures at c.in_err-validate.ensures)))
