use Rattle.std.proofs.Common.{arith}
use Rattle.std.proofs.lemmas.Result.{err_from_is_err_and}
use Rattle.std.proofs.Common.{length}
use Rattle.codex32_calls.specs.declared.refusal.Refusal.TheVariants as refusals
use Rattle.codex32_calls.proofs.Accepted.{either-from_payload, no_either_fault, no_share_fault}
use Rattle.codex32_calls.proofs.share.put_payload.Goals as goal

pub returns-in_err-count-clause-refused : goal.returns-in_err-count-clause-refused
returns-in_err-count-clause-refused c =
    let p = err_from_is_err_and c.from_residual-in_err-count.result c.from_residual-in_err-count.ensures.1 in
    rw p.1
    (rw p.2
    (record {
      header = c.in_ok-share.share.header;
      payload = c.in_ok-share.share.payload.now;
      is_string = c.in_ok-share.ensures.is_string;
      holds = c.in_err-count.ensures;
    }))

pub returns-then-count-bytes-clause-refused : goal.returns-then-count-bytes-clause-refused
returns-then-count-bytes-clause-refused c = record {
  header = c.in_ok-share.share.header;
  payload = c.in_ok-share.share.payload.now;
  is_string = c.in_ok-share.ensures.is_string;
  holds = (c.in_ok-count.ensures.1, omega (arith, c.if-count-bytes.true, c.in_ok-count.ensures.0));
}

pub returns-in_err-share-clause-accepts : goal.returns-in_err-share-clause-accepts
returns-in_err-share-clause-accepts c can =
    absurd (no_either_fault c.args.text.now c.in_err-share.field-0.0 (either-from_payload _ c.args.text.now can) c.in_err-share.ensures)

pub returns-in_err-count-clause-accepts : goal.returns-in_err-count-clause-accepts
returns-in_err-count-clause-accepts c can =
    absurd (no_share_fault c.args.text.now (length c.args.bytes.now) (refusals.Payload c.in_err-count.field-0.0) can
    (record {
      header = c.in_ok-share.share.header;
      payload = c.in_ok-share.share.payload.now;
      is_string = c.in_ok-share.ensures.is_string;
      holds = c.in_err-count.ensures;
    }))

pub returns-then-count-bytes-clause-accepts : goal.returns-then-count-bytes-clause-accepts
returns-then-count-bytes-clause-accepts c can =
    absurd (no_share_fault c.args.text.now (length c.args.bytes.now) refusals.NoRoom can (returns-then-count-bytes-clause-refused c))
