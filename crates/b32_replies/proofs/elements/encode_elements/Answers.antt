use Rattle.std.proofs.Common.{ℕ, ◌≤◌, List, ◌++◌, length, ap, ◌∙◌, arith, codes, refl, string_bytes}
use Rattle.std.proofs.lemmas.Result.{err_from_is_err_and}
use Rattle.line_program.proofs.Pieces.{two-pieces}
use Rattle.b32_replies.specs.Reply.{IsLongWritten}
use Rattle.b32_replies.specs.Written.{IsTextOrRefusal}
use Rattle.b32_replies.specs.declared.long_command.Kind.TheVariants.{Elements}
use Rattle.b32_replies.proofs.ElementsReplies.{elements-bad_hrp, elements-refused, elements-refused_hex, elements-text}
use Rattle.b32_replies.proofs.Sizes.{elements-text-size}
use Rattle.b32_replies.proofs.elements.encode_elements.Goals as goal

pub returns-in_err-size-clause-answer : goal.returns-in_err-size-clause-answer
returns-in_err-size-clause-answer g c =
    let p = err_from_is_err_and c.from_residual.result c.from_residual.ensures.1 in
    rw p.1 (rw p.2 (elements-refused_hex g.Ck.Checksum.code c.args.hrp.now c.args.hex.now c.in_err-size.field-0.0 c.in_err-size.ensures.put, refl))

pub returns-in_err-hrp-clause-answer : goal.returns-in_err-hrp-clause-answer
returns-in_err-hrp-clause-answer g c =
    let p = err_from_is_err_and c.from_residual-in_err-hrp.result c.from_residual-in_err-hrp.ensures.1 in
    let (values, is_hex, size, there) = c.in_ok-size.ensures.put in
    rw p.1 (rw p.2 (elements-bad_hrp g.Ck.Checksum.code c.args.hrp.now c.args.hex.now values is_hex c.in_err-hrp.field-0.0 c.in_err-hrp.ensures.outcome, refl))

pub returns-in_err-text-clause-answer : goal.returns-in_err-text-clause-answer
returns-in_err-text-clause-answer g c =
    let p = err_from_is_err_and c.from_residual-in_err-text.result c.from_residual-in_err-text.ensures.1 in
    let (values, is_hex, size, there) = c.in_ok-size.ensures.put in
    let hrp = c.in_ok-hrp.ensures.outcome in
    let (own, refusal, same) = c.in_err-text.ensures values size (λ fits. there (omega (arith, fits, c.put_bytes_of_word.ensures.size))) in
    rw p.1 (rw p.2 (
      elements-refused g.Ck.Checksum.code c.args.hrp.now c.args.hex.now values is_hex c.in_err-text.field-0.0 own hrp.0 (rw hrp.1 at refusal) same,
      refl,
    ))

pub returns-clause-answer : goal.returns-clause-answer
returns-clause-answer g c =
    let code = g.Ck.Checksum.code in
    let text = string_bytes c.in_ok-text.text in
    let (values, is_hex, size, there) = c.in_ok-size.ensures.put in
    let hrp = c.in_ok-hrp.ensures.outcome in
    let is : IsLongWritten Elements code c.args.hrp.now values text = rw hrp.1 at (c.in_ok-text.ensures values size (λ fits. there (omega (arith, fits, c.put_bytes_of_word.ensures.size)))) in
    let short : length text ≤ 1023 = elements-text-size code c.args.hrp.now values text c.requires.short is.fits is.is_text in
    record {
      said = codes "ok " ++ text;
      says = elements-text code c.args.hrp.now c.args.hex.now values is_hex text hrp.0 is;
      size = omega (arith, short);
      added = two-pieces c.args.out.now.items (codes "ok ") text _ _ c.append.ensures.items (c.append-2.ensures.items ∙ ap (λ (t : List ℕ). c.append.new.out.items ++ t) c.as_bytes.ensures.value);
    }
