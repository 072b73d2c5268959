use Rattle.std.proofs.Common.{ℕ, List, length, sym, subst}
use Rattle.std.proofs.lemmas.Result.{err_from_is_err_and}
use Rattle.bech32_gf.specs.Fe32.{elements_of}
use Rattle.bech32_decode.specs.BeforeChecksum.{IsBeforeChecksum}
use Rattle.bech32_decode.specs.SegwitPadding.{IsPadded}
use Rattle.bech32_calls.specs.Faults.{refusal_of_bytes}
use Rattle.bech32_calls.proofs.OneSpelling.{puts_strict, refused_strict, strict_lacks, unpadded_strict, unread_strict}
use Rattle.bech32_calls.proofs.Unread.{unread}
use Rattle.bech32_calls.proofs.strict.decoded_strict.Goals as goal

pub returns-in_err-reading-clause-refused : goal.returns-in_err-reading-clause-refused
returns-in_err-reading-clause-refused g c =
    let p = err_from_is_err_and c.from_residual.result c.from_residual.ensures.1 in
    rw p.1 (rw p.2 (unread_strict c.args.text.now (length c.args.hrp.now) (length c.args.bytes.now) g.Ck.Checksum.code (refusal_of_bytes c.in_err-reading.field-0.0) (unread c.args.text.now c.in_err-reading.field-0.0 c.in_err-reading.ensures)))

pub returns-in_err-validate-clause-refused : goal.returns-in_err-validate-clause-refused
returns-in_err-validate-clause-refused g c =
    let r = c.in_ok-reading.reading in
    let p = err_from_is_err_and c.from_residual-in_err-validate.result c.from_residual-in_err-validate.ensures.1 in
    rw p.1 (rw p.2 (refused_strict c.args.text.now r.hrp.now r.data_part.now (length c.args.hrp.now) (length c.args.bytes.now) g.Ck.Checksum.code c.in_err-validate.field-0.0
    (rw c.in_ok-reading.ensures at r.is_reading.grammar) (rw c.in_ok-reading.ensures at c.in_err-validate.ensures)))

pub returns-in_err-validate_segwit_padding-clause-refused : goal.returns-in_err-validate_segwit_padding-clause-refused
returns-in_err-validate_segwit_padding-clause-refused g c =
    let r = c.in_ok-reading.reading in
    let p = err_from_is_err_and c.from_residual-in_err-validate_segwit_padding.result c.from_residual-in_err-validate_segwit_padding.ensures.1 in
    rw p.1 (rw p.2 (unpadded_strict c.args.text.now r.hrp.now r.data_part.now _ (length c.args.hrp.now) (length c.args.bytes.now) g.Ck.Checksum.code
    c.in_err-validate_segwit_padding.field-0.0 (rw c.in_ok-reading.ensures at c.in_ok-validate.ensures) c.checked-found.ensures.before c.in_err-validate_segwit_padding.ensures))

pub returns-clause-refused : goal.returns-clause-refused
returns-clause-refused g c =
    let r = c.in_ok-reading.reading in
    let code = g.Ck.Checksum.code in
    let same = c.data_part_ascii_no_checksum.ensures.value in
    strict_lacks c.args.text.now r.hrp.now r.data_part.now c.data_part_ascii_no_checksum.result.now code
    (rw c.in_ok-reading.ensures at c.in_ok-validate.ensures)
    (subst (λ (x : List ℕ). IsBeforeChecksum code r.data_part.now x) (sym same) c.checked-found.ensures.before)
    (subst (λ (x : List ℕ). IsPadded (elements_of x)) (sym same) c.in_ok-validate_segwit_padding.ensures)
    (length c.args.hrp.now) (length c.args.bytes.now) c.put_parts.result c.put_parts.ensures.refused

pub returns-clause-value : goal.returns-clause-value
returns-clause-value g c =
    let r = c.in_ok-reading.reading in
    let code = g.Ck.Checksum.code in
    let same = c.data_part_ascii_no_checksum.ensures.value in
    puts_strict c.args.text.now r.hrp.now r.data_part.now c.data_part_ascii_no_checksum.result.now code
    (rw c.in_ok-reading.ensures at c.in_ok-validate.ensures)
    (subst (λ (x : List ℕ). IsBeforeChecksum code r.data_part.now x) (sym same) c.checked-found.ensures.before)
    (subst (λ (x : List ℕ). IsPadded (elements_of x)) (sym same) c.in_ok-validate_segwit_padding.ensures)
    c.args.hrp.now c.put_parts.new.hrp c.args.bytes.now c.put_parts.new.bytes c.put_parts.result c.put_parts.ensures.value
