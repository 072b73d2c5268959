use Rattle.std.specs.Prelude.{not}
use Rattle.std.proofs.Common.{◌≡◌, ◌++◌, ◌∙◌, ℕ, List, true, false, inl, inr, is_ok, ap, refl}
use Rattle.line_program.specs.Refused.{err}
use Rattle.mend.proofs.LiquidReplies.{on-ok}
use Rattle.mend.proofs.liquid_near.append_said.Goals as goal

pub returns-in-Err-clause-answer : goal.returns-in-Err-clause-answer
returns-in-Err-clause-answer c = (rw c.in-Err.is (ap err c.correct_error_number.ensures.value), refl)

pub returns-then-is_err-clause-answer : goal.returns-then-is_err-clause-answer
returns-then-is_err-clause-answer c =
    let kept : is_ok c.append_any.result ≡ false = c.is_err.ensures.negation ∙ ap not c.if-is_err.true in
    (rw c.in-Ok.is (inr refl), rw kept at c.append_any.ensures.items)

pub returns-clause-answer : goal.returns-clause-answer
returns-clause-answer c =
    let added : is_ok c.append_any.result ≡ true = c.is_err.ensures.negation ∙ ap not c.if-is_err.false in (
      c.in-Ok.said.items,
      rw c.in-Ok.is (inl refl),
      (rw added at c.append_any.ensures.items) ∙ ap (λ (l : List ℕ). c.args.out.now.items ++ l) c.as_slice.ensures.value,
    )

pub returns-clause-room : goal.returns-clause-room
returns-clause-room c =
    let added : is_ok c.append_any.result ≡ true = c.is_err.ensures.negation ∙ ap not c.if-is_err.false in
    on-ok c.append_any.result _ added c.append_any.ensures.room
