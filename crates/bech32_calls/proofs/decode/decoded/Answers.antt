use Rattle.std.proofs.Common.{length}
use Rattle.std.proofs.lemmas.Result.{err_from_is_err_and}
use Rattle.bech32_calls.specs.Decode.{IsReadFault}
use Rattle.bech32_calls.specs.declared.refusal.Refusal.TheVariants.{Checksum}
use Rattle.bech32_calls.specs.Faults.{refusal_of_bytes}
use Rattle.bech32_calls.proofs.Decoding.{decoded_lacks, puts_decoded, refused_either, unread_decode}
use Rattle.bech32_calls.proofs.Unread.{unread}
use Rattle.bech32_calls.proofs.decode.decoded.Goals as goal

pub returns-in_err-reading-clause-refused : goal.returns-in_err-reading-clause-refused
returns-in_err-reading-clause-refused c =
    let p = err_from_is_err_and c.from_residual.result c.from_residual.ensures.1 in
    rw p.1 (rw p.2 (unread_decode c.args.text.now (length c.args.hrp.now) (length c.args.bytes.now) (refusal_of_bytes c.in_err-reading.field-0.0) (unread c.args.text.now c.in_err-reading.field-0.0 c.in_err-reading.ensures)))

pub returns-in_err-validate_either-clause-refused : goal.returns-in_err-validate_either-clause-refused
returns-in_err-validate_either-clause-refused c =
    let p = err_from_is_err_and c.from_residual-in_err-validate_either.result c.from_residual-in_err-validate_either.ensures.1 in
    let e = c.in_err-validate_either.field-0.0 in
    let wrong : IsReadFault c.args.text.now (Checksum e) = refused_either c.args.text.now e (rw c.in_ok-reading.ensures at c.in_err-validate_either.ensures) in
    rw p.1 (rw p.2 wrong)

pub returns-clause-refused : goal.returns-clause-refused
returns-clause-refused c =
    let r = c.in_ok-reading.reading in
    decoded_lacks c.args.text.now r.hrp.now r.data_part.now c.characters.result.now
    (rw c.in_ok-reading.ensures at c.in_ok-validate_either.ensures) c.characters.ensures.before
    (length c.args.hrp.now) (length c.args.bytes.now) c.put_parts.result c.put_parts.ensures.refused

pub returns-clause-value : goal.returns-clause-value
returns-clause-value c =
    let r = c.in_ok-reading.reading in
    puts_decoded c.args.text.now r.hrp.now r.data_part.now c.characters.result.now
    (rw c.in_ok-reading.ensures at c.in_ok-validate_either.ensures) c.characters.ensures.before
    c.args.hrp.now c.put_parts.new.hrp c.args.bytes.now c.put_parts.new.bytes c.put_parts.result c.put_parts.ensures.value
