use Rattle.std.proofs.lemmas.Result.{err_from_is_err_and}
use Rattle.bech32_checksum.specs.Code.{bech32, bech32m}
use Rattle.bech32_calls.specs.Faults.{refusal_of_bytes}
use Rattle.bech32_calls.proofs.Mending.{text_fault_there, unread_either}
use Rattle.bech32_calls.proofs.Unread.{unread}
use Rattle.bech32_calls.proofs.nearest.read_either.Goals as goal

pub returns-in_err-reading : goal.returns-in_err-reading
returns-in_err-reading c =
    let bytes = c.args.bytes.now in
    let e = refusal_of_bytes c.in_err-reading.field-0.0 in
    let fault = unread bytes c.in_err-reading.field-0.0 c.in_err-reading.ensures in
    let p = err_from_is_err_and c.from_residual.result c.from_residual.ensures.1 in
    rw p.1 (rw p.2 (text_fault_there bytes e bech32m fault, text_fault_there bytes e bech32 fault))

pub returns-in_err-validate_lengths : goal.returns-in_err-validate_lengths
returns-in_err-validate_lengths c =
    let r = c.in_ok-reading.reading in
    let refused = rw c.in_ok-reading.ensures at c.in_err-validate_lengths.ensures in
    let p = err_from_is_err_and c.from_residual-in_err-validate_lengths.result c.from_residual-in_err-validate_lengths.ensures.1 in
    rw p.1
    (rw p.2 (unread_either c.args.bytes.now r.hrp.now r.data_part.now c.in_err-validate_lengths.field-0.0
    (rw c.in_ok-reading.ensures at r.is_reading.grammar) refused.0 refused.1))
