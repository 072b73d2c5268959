use Rattle.std.proofs.Common.{◌++◌, ℕ, List, ap, ◌∙◌, refl, sym}
use Rattle.b32_replies.specs.Request.{code_of_name}
use Rattle.mend.proofs.Replies.{says-bad_word, says-near, says-no_memory, says-refused}
use Rattle.mend.proofs.near.near_texts.Goals as goal

pub returns-in_default-clause-answer : goal.returns-in_default-clause-answer
returns-in_default-clause-answer c = (says-bad_word (code_of_name c.args.checksum) c.args.text.now c.args.given.now c.args.errors.now (sym c.in_default.ensures), refl)

pub returns-in-Ok-append_any-clause-answer : goal.returns-in-Ok-append_any-clause-answer
returns-in-Ok-append_any-clause-answer c =
    let said = c.in-Ok.said.items in (
      said,
      says-near (code_of_name c.args.checksum) c.args.text.now c.args.given.now c.args.errors.now c.in-Some.errors (sym c.in-Some.ensures) said c.in-Ok.ensures,
      c.in-Ok-append_any.ensures.items ∙ ap (λ (l : List ℕ). c.args.out.now.items ++ l) c.as_slice.ensures.value,
    )

pub returns-in-Ok-clause-answer : goal.returns-in-Ok-clause-answer
returns-in-Ok-clause-answer c = (
  says-no_memory (code_of_name c.args.checksum) c.args.text.now c.args.given.now c.args.errors.now c.in-Some.errors (sym c.in-Some.ensures) c.in-Ok.said.items c.in-Ok.ensures,
  c.in-Err-append_any.ensures.items,
)

pub returns-clause-answer : goal.returns-clause-answer
returns-clause-answer c =
    rw c.correct_error_number.ensures.value
    (says-refused (code_of_name c.args.checksum) c.args.text.now c.args.given.now c.args.errors.now c.in-Some.errors (sym c.in-Some.ensures) c.in-Err.e c.in-Err.ensures, refl)
