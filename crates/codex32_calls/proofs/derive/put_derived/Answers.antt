use Rattle.std.proofs.Common.{length, take}
use Rattle.std.proofs.lemmas.Result.{MatchResult-weaker, err_from_is_err_and}
use Rattle.codex32_calls.specs.Derive.{IsDeriveFault}
use Rattle.codex32_calls.specs.declared.refusal.Refusal.TheVariants as refusals
use Rattle.codex32_calls.proofs.Made.{accepts-from_made, refused-from_made}
use Rattle.codex32_calls.proofs.SameShares.{no_derive_fault}
use Rattle.codex32_calls.proofs.derive.put_derived.Goals as goal

pub returns-in_err-count-clause-refused : goal.returns-in_err-count-clause-refused
returns-in_err-count-clause-refused c =
    let p = err_from_is_err_and c.from_residual.result c.from_residual.ensures.1 in
    rw p.1 (rw p.2 (c.in_err-count.ensures.refused (length c.args.text.now)))

pub returns-in_err-count-clause-accepts : goal.returns-in_err-count-clause-accepts
returns-in_err-count-clause-accepts c can =
    let room = length c.args.text.now in
    absurd (no_derive_fault c.args.share_index c.args.texts.characters.now c.args.texts.lengths.now room c.in_err-count.field-0.0 can (c.in_err-count.ensures.refused room))

pub returns-clause-value : goal.returns-clause-value
returns-clause-value c =
    MatchResult-weaker c.put_made.result c.put_made.ensures
    (λ n put. record {
      asked = c.in_ok-count.ensures.value.0;
      text = take c.in_ok-count.count c.put_string.new.room;
      is_text = c.in_ok-count.ensures.value.1;
      put = put;
    })
    (λ _ _. tt)

pub returns-clause-refused : goal.returns-clause-refused
returns-clause-refused c =
    refused-from_made (IsDeriveFault c.args.share_index c.args.texts.characters.now c.args.texts.lengths.now (length c.args.text.now))
    c.put_made.result _ _ _ c.put_made.ensures
    (λ lacks. record {
      asked = c.in_ok-count.ensures.value.0;
      text = take c.in_ok-count.count c.put_string.new.room;
      is_text = c.in_ok-count.ensures.value.1;
      lacks = lacks;
    })

pub returns-clause-same : goal.returns-clause-same
returns-clause-same c = MatchResult-weaker c.put_made.result c.put_made.ensures (λ _ _. tt) (λ _ h. h.2)

pub returns-clause-accepts : goal.returns-clause-accepts
returns-clause-accepts c can =
    accepts-from_made c.put_made.result _ _ _ c.put_made.ensures
    (λ lacks. no_derive_fault c.args.share_index c.args.texts.characters.now c.args.texts.lengths.now (length c.args.text.now) refusals.NoRoom can
    (record {
      asked = c.in_ok-count.ensures.value.0;
      text = take c.in_ok-count.count c.put_string.new.room;
      is_text = c.in_ok-count.ensures.value.1;
      lacks = lacks;
    }))
