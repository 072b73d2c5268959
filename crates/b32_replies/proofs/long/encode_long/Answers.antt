use Rattle.std.proofs.Common.{◌∙◌, ◌++◌, ℕ, List, ap, arith, codes, refl, string_bytes}
use Rattle.std.proofs.lemmas.Result.{err_from_is_err_and}
use Rattle.b32_replies.specs.LongRequest.{code_of_long}
use Rattle.b32_replies.specs.Reply.{IsLongWritten, memory_refusal}
use Rattle.b32_replies.proofs.LongAnswers.{long-bad_hrp, long-refused, long-refused_hex, long-same, long-text, not-written}
use Rattle.b32_replies.proofs.long.encode_long.Goals as goal

pub returns-in_err-size-clause-answer : goal.returns-in_err-size-clause-answer
returns-in_err-size-clause-answer g c =
    let p = err_from_is_err_and c.from_residual.result c.from_residual.ensures.1 in
    rw p.1 (rw p.2 (long-refused_hex c.args.kind (code_of_long c.args.asked.0) c.args.asked.1.0.now c.args.asked.1.1.now c.in_err-size.field-0.0 c.in_err-size.ensures.put, refl))

pub returns-in_err-part_of_word-clause-answer : goal.returns-in_err-part_of_word-clause-answer
returns-in_err-part_of_word-clause-answer g c =
    let p = err_from_is_err_and c.from_residual-in_err-part_of_word.result c.from_residual-in_err-part_of_word.ensures.1 in
    let (values, is_hex, size, there) = c.in_ok-size.ensures.put in
    let (e, is, refused) = c.in_err-part_of_word.ensures in
    rw p.1 (rw (p.2 ∙ is) (long-bad_hrp c.args.kind (code_of_long c.args.asked.0) c.args.asked.1.0.now c.args.asked.1.1.now values is_hex e refused, refl))

pub returns-in_err-text-clause-answer : goal.returns-in_err-text-clause-answer
returns-in_err-text-clause-answer g c =
    let p = err_from_is_err_and c.from_residual-in_err-text.result c.from_residual-in_err-text.ensures.1 in
    let (values, is_hex, size, there) = c.in_ok-size.ensures.put in
    let (own, refusal, same) = c.in_err-text.ensures values size (λ fits. there (omega (arith, fits, c.put_bytes_of_word.ensures.size))) in
    let part = c.in_ok-part_of_word.ensures in
    rw p.1 (rw p.2 (
      long-same c.args.kind (code_of_long c.args.asked.0) c.args.asked.1.0.now c.args.asked.1.1.now values is_hex part.0 c.in_err-text.field-0.0 own
          (rw (c.of_bytes-hrp.ensures ∙ part.1) at refusal) same,
      refl,
    ))

pub returns-in-Ok-clause-answer : goal.returns-in-Ok-clause-answer
returns-in-Ok-clause-answer g c =
    let code = code_of_long c.args.asked.0 in
    let hrp = c.args.asked.1.0.now in
    let text = string_bytes c.in_ok-text.text in
    let (values, is_hex, size, there) = c.in_ok-size.ensures.put in
    let part = c.in_ok-part_of_word.ensures in
    let is : IsLongWritten c.args.kind code hrp values text = rw (c.of_bytes-hrp.ensures ∙ part.1) at (c.in_ok-text.ensures values size (λ fits. there (omega (arith, fits, c.put_bytes_of_word.ensures.size)))) in (
      codes "ok " ++ text,
      long-text c.args.kind code hrp c.args.asked.1.1.now values is_hex part.0 text is,
      c.in-Ok.ensures.items ∙ ap (λ (t : List ℕ). c.args.out.now.items ++ (codes "ok " ++ t)) c.as_bytes.ensures.value,
    )

pub returns-clause-answer : goal.returns-clause-answer
returns-clause-answer g c =
    let code = code_of_long c.args.asked.0 in
    let hrp = c.args.asked.1.0.now in
    let text = string_bytes c.in_ok-text.text in
    let (values, is_hex, size, there) = c.in_ok-size.ensures.put in
    let part = c.in_ok-part_of_word.ensures in
    let is : IsLongWritten c.args.kind code hrp values text = rw (c.of_bytes-hrp.ensures ∙ part.1) at (c.in_ok-text.ensures values size (λ fits. there (omega (arith, fits, c.put_bytes_of_word.ensures.size)))) in
    rw c.no_memory.ensures (
      long-refused c.args.kind code hrp c.args.asked.1.1.now values is_hex part.0 (memory_refusal c.args.kind) (not-written c.args.kind code hrp values text is),
      c.in-Err.ensures.items,
    )
