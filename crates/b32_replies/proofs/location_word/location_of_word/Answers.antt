use Rattle.std.proofs.Common.{◌≡◌, ◌≤◌, ◌∙◌, ◌+◌, ◌*◌, ℕ, sym, ap, inl, inr, arith}
use Rattle.std.specs.Fmt.{decimal}
use Rattle.b32_replies.proofs.LocationWords.{all_read, first_byte, no_byte, no_digit, no_more, no_next, one_more_byte, too_much}
use Rattle.b32_replies.proofs.location_word.location_of_word.Goals.{then-number-eq0-via-then-number-eq0, then-number-eq0-via-else-number-eq0+then-number}
use Rattle.b32_replies.proofs.location_word.location_of_word.Goals as goal

pub returns-in_err-first : goal.returns-in_err-first
returns-in_err-first c = rw c.from_residual.ensures (λ n few e. no_byte c.args.word.now n c.in_err-first.ensures.cases few e)

pub returns-in_err-digit_value : goal.returns-in_err-digit_value
returns-in_err-digit_value c =
    rw c.from_residual-in_err-digit_value.ensures
    (λ n few e. no_digit c.args.word.now c.in_ok-first.others.now c.in_ok-first.first.now n c.in_ok-first.ensures.cases.0 c.in_err-digit_value.ensures few e)

pub loop-byte-init : goal.loop-byte-init
loop-byte-init c =
    let digit = c.in_ok-digit_value.ensures in
    let same : c.from-number.result ≡ c.in_ok-digit_value.field-0 = c.from-number.ensures in
    record {
      few = omega (arith, digit.0, same);
      spelled = first_byte c.args.word.now c.in_ok-first.others.now c.in_ok-first.first.now c.in_ok-digit_value.field-0 c.in_ok-first.ensures.cases.0 digit.0 digit.1
          ∙ ap decimal (sym same);
    }

pub returns-then-number-eq0 : goal.returns-then-number-eq0
returns-then-number-eq0 c n few e =
    let inv = c.loop-byte.invariant in
    elim c.then-number-eq0.branch [
      | then-number-eq0-via-then-number-eq0 w ↦
          no_more c.args.word.now c.in_ok-first.others.now c.in_ok-first.first.now c.loop-byte.byte-index n c.loop-byte.number c.in_ok-first.ensures.cases.0
          c.loop-byte-test.true inv.spelled few inv.few (inl w.if-number-eq0.true) e
      | then-number-eq0-via-else-number-eq0+then-number w ↦
          no_more c.args.word.now c.in_ok-first.others.now c.in_ok-first.first.now c.loop-byte.byte-index n c.loop-byte.number c.in_ok-first.ensures.cases.0
          c.loop-byte-test.true inv.spelled few inv.few (inr w.if-number.true) e
    ]

pub returns-in_err-digit_value-2 : goal.returns-in_err-digit_value-2
returns-in_err-digit_value-2 c =
    let inv = c.loop-byte.invariant in
    rw c.from_residual-in_err-digit_value-2.ensures
    (λ n few e. no_next c.args.word.now c.in_ok-first.others.now c.in_ok-first.first.now c.loop-byte.byte-index n c.loop-byte.number c.in_ok-first.ensures.cases.0
    c.loop-byte-test.true inv.spelled few inv.few c.in_err-digit_value-2.ensures e)

pub loop-byte-preserved : goal.loop-byte-preserved
loop-byte-preserved c =
    let digit = c.in_ok-digit_value-2.ensures in
    let same : c.from.result ≡ c.in_ok-digit_value-2.field-0 = c.from.ensures in
    let some = c.if-number-eq0.false in
    let few : c.loop-byte.number ≤ 102 = c.if-number.false in
    record {
      few = omega (arith, digit.0, same, few);
      spelled = one_more_byte c.args.word.now c.in_ok-first.others.now c.in_ok-first.first.now c.loop-byte.byte-index c.loop-byte.number c.in_ok-digit_value-2.field-0
          c.in_ok-first.ensures.cases.0 c.loop-byte-test.true c.loop-byte.invariant.spelled (omega arith) few digit.0 digit.1
          ∙ ap (λ (k : ℕ). decimal (10 * c.loop-byte.number + k)) (sym same);
    }

pub returns-then-number-gt-MOST : goal.returns-then-number-gt-MOST
returns-then-number-gt-MOST c n few e =
    let inv = c.loop-byte.invariant in
    too_much c.args.word.now n c.loop-byte.number
    (all_read c.args.word.now c.in_ok-first.others.now c.in_ok-first.first.now c.loop-byte.byte-index c.loop-byte.number c.in_ok-first.ensures.cases.0 c.loop-byte-test.false inv.spelled)
    inv.few c.if-number-gt-MOST.true few e
