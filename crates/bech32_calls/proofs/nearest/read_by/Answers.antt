use Rattle.std.proofs.Common.{length}
use Rattle.std.proofs.lemmas.Result.{err_from_is_err_and}
use Rattle.bech32_decode.specs.Refusals.{HasLengths}
use Rattle.bech32_calls.specs.Correct.{IsResidueFault}
use Rattle.bech32_calls.proofs.ByNumber.{either_fault, so_by_number, unchecked_by}
use Rattle.bech32_calls.proofs.nearest.read_by.Goals as goal

pub returns-in_err-validate_checksum : goal.returns-in_err-validate_checksum
returns-in_err-validate_checksum c =
    let p = err_from_is_err_and c.from_residual.result c.from_residual.ensures.1 in
    rw p.1 (rw p.2 (unchecked_by (IsResidueFault c.args.bytes.now) c.in_err-validate_checksum.field-0.0 c.args.checksum c.in_err-validate_checksum.ensures))

pub returns-in_err-reading : goal.returns-in_err-reading
returns-in_err-reading c =
    let p = err_from_is_err_and c.from_residual-in_err-reading.result c.from_residual-in_err-reading.ensures.1 in
    let h = c.in_err-reading.ensures in
    rw p.1 (rw p.2 (either_fault (IsResidueFault c.args.bytes.now) c.in_err-reading.field-0.0 h.1 h.0 c.args.checksum c.in_ok-validate_checksum.ensures))

pub returns : goal.returns
returns c =
    let r = c.in_ok-reading.reading in
    let h = c.in_ok-reading.ensures in
    (h.0, so_by_number (λ code. HasLengths code (length r.text.now) (length r.data_part.now)) h.1 h.1 c.args.checksum c.in_ok-validate_checksum.ensures)
