use Rattle.std.proofs.Common.{inl, inr, ⊎_elim}
use Rattle.std.proofs.lemmas.Result.{err_from_is_err_and}
use Rattle.bech32_checksum.specs.Code.{bech32, bech32m}
use Rattle.bech32_decode.specs.Acceptance.{IsAccepted, IsAcceptedByEither}
use Rattle.bech32_calls.specs.Faults.{refusal_of_bytes}
use Rattle.bech32_calls.proofs.Decoding.{refused_either, unread_read}
use Rattle.bech32_calls.proofs.Unread.{unread}
use Rattle.bech32_calls.proofs.decode.checked_by_either.Goals as goal

pub returns-in_err-reading : goal.returns-in_err-reading
returns-in_err-reading c =
    let p = err_from_is_err_and c.from_residual.result c.from_residual.ensures.1 in
    rw p.1 (rw p.2 (unread_read c.args.text.now (refusal_of_bytes c.in_err-reading.field-0.0) (unread c.args.text.now c.in_err-reading.field-0.0 c.in_err-reading.ensures)))

pub returns-in-Ok : goal.returns-in-Ok
returns-in-Ok c =
    let r = c.in_ok-reading.reading in
    let text = c.args.text.now in
    let accepted = rw c.in_ok-reading.ensures at c.in-Ok.ensures in
    let either : IsAcceptedByEither text = ⊎_elim (λ (a : IsAccepted bech32m text r.hrp.now r.data_part.now). inl (r.hrp.now, r.data_part.now, a))
    (λ (a : IsAccepted bech32 text r.hrp.now r.data_part.now). inr (r.hrp.now, r.data_part.now, a)) accepted in
    either

pub returns-in-Err : goal.returns-in-Err
returns-in-Err c = refused_either c.args.text.now c.in-Err.e (rw c.in_ok-reading.ensures at c.in-Err.ensures)
