use Rattle.std.specs.Prelude.{Result, Ok, Err}
use Rattle.std.proofs.Common.{◌≤◌, ℕ, length}
use Rattle.std.proofs.lemmas.Result.{err_from_is_err_and}
use Rattle.bech32_calls.specs.declared.refusal.Refusal.{Refusal}
use Rattle.bech32_calls.specs.Faults.{refusal_of_bytes}
use Rattle.bech32_calls.proofs.InElements.{elements_lacks, puts_elements, refused_elements, unread_elements, values_put}
use Rattle.bech32_calls.proofs.Unread.{unread}
use Rattle.bech32_calls.proofs.elements.decoded_elements.Goals as goal

pub returns-in_err-reading-clause-refused : goal.returns-in_err-reading-clause-refused
returns-in_err-reading-clause-refused g c =
    let p = err_from_is_err_and c.from_residual.result c.from_residual.ensures.1 in
    rw p.1 (rw p.2 (unread_elements c.args.text.now (length c.args.hrp.now) (length c.args.elements.now) g.Ck.Checksum.code (refusal_of_bytes c.in_err-reading.field-0.0) (unread c.args.text.now c.in_err-reading.field-0.0 c.in_err-reading.ensures)))

pub returns-in_err-validate-clause-refused : goal.returns-in_err-validate-clause-refused
returns-in_err-validate-clause-refused g c =
    let r = c.in_ok-reading.reading in
    let p = err_from_is_err_and c.from_residual-in_err-validate.result c.from_residual-in_err-validate.ensures.1 in
    rw p.1 (rw p.2 (refused_elements c.args.text.now r.hrp.now r.data_part.now (length c.args.hrp.now) (length c.args.elements.now) g.Ck.Checksum.code c.in_err-validate.field-0.0
    (rw c.in_ok-reading.ensures at r.is_reading.grammar) (rw c.in_ok-reading.ensures at c.in_err-validate.ensures)))

pub returns-in_err-validate_rooms-clause-refused : goal.returns-in_err-validate_rooms-clause-refused
returns-in_err-validate_rooms-clause-refused g c =
    let r = c.in_ok-reading.reading in
    let e = c.in_err-validate_rooms.field-0.0 in
    let p = err_from_is_err_and c.from_residual-in_err-validate_rooms.result c.from_residual-in_err-validate_rooms.ensures.1 in
    let refused : Result (ℕ × ℕ) Refusal = Err e in
    rw p.1 (rw p.2 (elements_lacks c.args.text.now r.hrp.now r.data_part.now c.characters-characters.result.now g.Ck.Checksum.code
    (rw c.in_ok-reading.ensures at c.in_ok-validate.ensures) c.characters-characters.ensures.before
    (length c.args.hrp.now) (length c.args.elements.now) refused c.in_err-validate_rooms.ensures))

pub returns-clause-value : goal.returns-clause-value
returns-clause-value g c =
    let r = c.in_ok-reading.reading in
    let characters = c.characters-characters.result.now in
    let room : length characters ≤ length c.args.elements.now = c.in_ok-validate_rooms.ensures.1 in
    let put : Result (ℕ × ℕ) Refusal = Ok (length r.hrp.now, c.put_elements.result) in
    puts_elements c.args.text.now r.hrp.now r.data_part.now characters g.Ck.Checksum.code
    (rw c.in_ok-reading.ensures at c.in_ok-validate.ensures) c.characters-characters.ensures.before
    c.args.hrp.now c.put_at_front.new.buffer c.args.elements.now c.put_elements.new.buffer put
    (c.put_at_front.ensures, values_put characters c.args.elements.now c.put_elements.new.buffer c.put_elements.result room c.put_elements.ensures.count c.put_elements.ensures.buffer)
