use Rattle.std.proofs.lemmas.Result.{err_from_is_err_and}
use Rattle.blech32.specs.Words.{blech32_code}
use Rattle.bech32_calls.specs.Faults.{refusal_of_bytes}
use Rattle.bech32_calls.proofs.Mending.{text_fault_there, unread-from_lengths}
use Rattle.bech32_calls.proofs.Unread.{unread}
use Rattle.bech32_more_calls.proofs.confidential.nearest.read_to_mend.Goals as goal

pub returns-in_err-reading : goal.returns-in_err-reading
returns-in_err-reading c =
    let p = err_from_is_err_and c.from_residual.result c.from_residual.ensures.1 in
    rw p.1 (rw p.2 (text_fault_there c.args.bytes.now (refusal_of_bytes c.in_err-reading.field-0.0) blech32_code (unread c.args.bytes.now c.in_err-reading.field-0.0 c.in_err-reading.ensures)))

pub returns-in_err-validate_lengths : goal.returns-in_err-validate_lengths
returns-in_err-validate_lengths c =
    let r = c.in_ok-reading.reading in
    let same = c.in_ok-reading.ensures in
    let refused = rw same at c.in_err-validate_lengths.ensures in
    let p = err_from_is_err_and c.from_residual-in_err-validate_lengths.result c.from_residual-in_err-validate_lengths.ensures.1 in
    rw p.1
    (rw p.2 (unread-from_lengths c.args.bytes.now r.hrp.now r.data_part.now blech32_code c.in_err-validate_lengths.field-0.0
    (rw same at r.is_reading.grammar) refused.0 refused.1))
