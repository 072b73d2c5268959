use Rattle.std.proofs.Common.{◌≤◌, ◌∙◌, Some, sym, ap, refl, arith}
use Rattle.std.proofs.lemmas.Result.{err_from_is_err_and}
use Rattle.b32_replies.proofs.SegwitReplies.{says-bad_hex, says-bad_hrp, says-bad_number, says-no_address}
use Rattle.b32_replies.proofs.segwit_encode.segwit_encode.Goals as goal

pub returns-in_default-clause-answer : goal.returns-in_default-clause-answer
returns-in_default-clause-answer c = (says-bad_number c.args.hrp.now c.args.version.now c.args.hex.now c.in_default.ensures, refl)

pub returns-in_err-size-clause-answer : goal.returns-in_err-size-clause-answer
returns-in_err-size-clause-answer c =
    let p = err_from_is_err_and c.from_residual.result c.from_residual.ensures.1 in
    let refused = c.in_err-size.ensures.put in
    rw p.1 (rw p.2 (rw refused.0 (says-bad_hex c.args.hrp.now c.args.version.now c.args.hex.now c.in-Some.version c.in-Some.ensures refused.1, refl)))

pub returns-in_err-part_of_word-clause-answer : goal.returns-in_err-part_of_word-clause-answer
returns-in_err-part_of_word-clause-answer c =
    let p = err_from_is_err_and c.from_residual-in_err-part_of_word.result c.from_residual-in_err-part_of_word.ensures.1 in
    let (bytes, is_hex, size, there) = c.in_ok-size.ensures.put in
    let (e, is, refused) = c.in_err-part_of_word.ensures in
    rw p.1 (rw (p.2 ∙ is) (says-bad_hrp c.args.hrp.now c.args.version.now c.args.hex.now c.in-Some.version c.in-Some.ensures bytes is_hex e refused, refl))

pub returns-then-size-gt-MAX_PROGRAM_LENGTH-clause-answer : goal.returns-then-size-gt-MAX_PROGRAM_LENGTH-clause-answer
returns-then-size-gt-MAX_PROGRAM_LENGTH-clause-answer c =
    let (bytes, is_hex, size, there) = c.in_ok-size.ensures.put in
    let long = c.if-size-gt-MAX_PROGRAM_LENGTH.true in
    let (e, is, fault) = c.refusal_of_long.ensures c.args.hrp.now bytes (omega (arith, long, size)) in
    rw is (says-no_address c.args.hrp.now c.args.version.now c.args.hex.now c.in-Some.version c.in-Some.ensures bytes is_hex e c.in_ok-part_of_word.ensures.0 fault, refl)

pub returns-clause-answer : goal.returns-clause-answer
returns-clause-answer c =
    let (bytes, is_hex, size, there) = c.in_ok-size.ensures.put in
    c.append_address.ensures.answer c.args.version.now c.args.hex.now c.in-Some.ensures (is_hex ∙ ap Some (sym (there c.if-size-gt-MAX_PROGRAM_LENGTH.false)))
