use Rattle.std.proofs.Common.{◌≤◌, ◌++◌, ◌∙◌, ℕ, ap, codes, length, refl, subst, sym}
use Rattle.std.proofs.lemmas.Result.{err_from_is_err_and}
use Rattle.liquid.specs.Writing.{IsConfidentialEncodeRefusal, IsVersionAndLength}
use Rattle.b32_replies.proofs.LongAnswers.{liquid-bad_hex, liquid-bad_hrp, liquid-bad_number, liquid-no_key, liquid-refused, liquid-text}
use Rattle.b32_replies.proofs.confidential.liquid_encode.Goals as goal
use Rattle.bech32_refusals.specs.SegwitRules.{max_program_length}

pub returns-in_default-clause-answer : goal.returns-in_default-clause-answer
returns-in_default-clause-answer c = (liquid-bad_number c.args.words.0.now c.args.words.1.0.now c.args.words.1.1.0.now c.args.words.1.1.1.now c.in_default.ensures, refl)

pub returns-in_err-key-clause-answer : goal.returns-in_err-key-clause-answer
returns-in_err-key-clause-answer c =
    let p = err_from_is_err_and c.from_residual.result c.from_residual.ensures.1 in
    let refused = c.in_err-key.ensures in
    rw p.1 (rw p.2 (rw refused.0 (liquid-no_key c.args.words.0.now c.args.words.1.0.now c.args.words.1.1.0.now c.args.words.1.1.1.now c.in-Some.version c.in-Some.ensures refused.1, refl)))

pub returns-in_err-size-clause-answer : goal.returns-in_err-size-clause-answer
returns-in_err-size-clause-answer c =
    let p = err_from_is_err_and c.from_residual-in_err-size.result c.from_residual-in_err-size.ensures.1 in
    let refused = c.in_err-size.ensures.put in
    rw p.1 (rw p.2 (rw refused.0 (liquid-bad_hex c.args.words.0.now c.args.words.1.0.now c.args.words.1.1.0.now c.args.words.1.1.1.now c.in-Some.version c.in-Some.ensures c.in_ok-key.key c.in_ok-key.ensures refused.1, refl)))

pub returns-in_err-hrp-clause-answer : goal.returns-in_err-hrp-clause-answer
returns-in_err-hrp-clause-answer c =
    let p = err_from_is_err_and c.from_residual-in_err-hrp.result c.from_residual-in_err-hrp.ensures.1 in
    let (e, spelled, refused) = c.in_err-hrp.ensures in
    let (bytes, is_hex, size, there) = c.in_ok-size.ensures.put in
    rw p.1 (rw (p.2 ∙ spelled) (liquid-bad_hrp c.args.words.0.now c.args.words.1.0.now c.args.words.1.1.0.now c.args.words.1.1.1.now c.in-Some.version c.in-Some.ensures c.in_ok-key.key c.in_ok-key.ensures bytes is_hex e refused, refl))

pub returns-in-Err-clause-answer : goal.returns-in-Err-clause-answer
returns-in-Err-clause-answer c =
    let (bytes, is_hex, size, there) = c.in_ok-size.ensures.put in (
      liquid-refused c.args.words.0.now c.args.words.1.0.now c.args.words.1.1.0.now c.args.words.1.1.1.now c.in-Some.version c.in-Some.ensures c.in_ok-key.key c.in_ok-key.ensures bytes is_hex c.in-Err.e c.in_ok-hrp.ensures.0
          (subst (λ (n : ℕ). IsConfidentialEncodeRefusal c.in-Some.version n c.in-Err.e) size c.in-Err.ensures.0, c.in-Err.ensures.1),
      refl,
    )

pub append_address-requires-clause-lawful : goal.append_address-requires-clause-lawful
append_address-requires-clause-lawful c =
    let (bytes, is_hex, size, there) = c.in_ok-size.ensures.put in
    let fits : c.in_ok-size.size ≤ max_program_length = c.in_default-validate.ensures.program_length.not_long in
    subst (λ (n : ℕ). IsVersionAndLength c.in-Some.version n) (size ∙ ap length (sym (there fits))) c.in_default-validate.ensures

pub returns-clause-answer : goal.returns-clause-answer
returns-clause-answer c =
    let (bytes, is_hex, size, there) = c.in_ok-size.ensures.put in
    let fits : c.in_ok-size.size ≤ max_program_length = c.in_default-validate.ensures.program_length.not_long in
    let (text, is, added) = c.append_address.ensures.text in (
      codes "ok " ++ text,
      liquid-text c.args.words.0.now c.args.words.1.0.now c.args.words.1.1.0.now c.args.words.1.1.1.now c.in-Some.version c.in-Some.ensures c.in_ok-key.key c.in_ok-key.ensures bytes is_hex text c.in_ok-hrp.ensures.0
          (rw (c.in_ok-hrp.ensures.1, there fits) at is),
      added,
    )

pub append_address-requires-clause-short : goal.append_address-requires-clause-short
append_address-requires-clause-short c = c.in_ok-hrp.ensures.2.not_long
