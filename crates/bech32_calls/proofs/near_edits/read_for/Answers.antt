use Rattle.std.proofs.lemmas.Result.{err_from_is_err_and}
use Rattle.bech32_calls.specs.NearEdits.{IsEditsFault}
use Rattle.bech32_calls.specs.Faults.{refusal_of_bytes}
use Rattle.bech32_calls.proofs.ByNumber.{unchecked_by}
use Rattle.bech32_calls.proofs.Edited.{unread_by}
use Rattle.bech32_calls.proofs.Unread.{unread}
use Rattle.bech32_calls.proofs.near_edits.read_for.Goals as goal

pub returns-in_err-validate_checksum : goal.returns-in_err-validate_checksum
returns-in_err-validate_checksum c =
    let p = err_from_is_err_and c.from_residual.result c.from_residual.ensures.1 in
    rw p.1 (rw p.2 (unchecked_by (IsEditsFault c.args.bytes.now) c.in_err-validate_checksum.field-0.0 c.args.checksum c.in_err-validate_checksum.ensures))

pub returns-in_err-reading : goal.returns-in_err-reading
returns-in_err-reading c =
    let p = err_from_is_err_and c.from_residual-in_err-reading.result c.from_residual-in_err-reading.ensures.1 in
    rw p.1 (rw p.2 (unread_by c.args.checksum c.args.bytes.now (refusal_of_bytes c.in_err-reading.field-0.0) c.in_ok-validate_checksum.ensures (unread c.args.bytes.now c.in_err-reading.field-0.0 c.in_err-reading.ensures)))
