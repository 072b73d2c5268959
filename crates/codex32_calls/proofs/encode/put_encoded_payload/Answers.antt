use Rattle.std.proofs.lemmas.Result.{MatchResult-weaker, err_from_is_err_and}
use Rattle.codex32_calls.proofs.Payloads.{refused-from_payload}
use Rattle.std.proofs.Common.{◌∙◌, length, sym, take}
use Rattle.codex32_calls.specs.Payload.{IsEncodePayloadFault}
use Rattle.codex32_calls.specs.declared.refusal.Refusal.TheVariants as refusals
use Rattle.codex32_calls.proofs.Accepted.{no_encode_payload_fault}
use Rattle.codex32_calls.proofs.Made.{accepts-from_made, refused-from_made}
use Rattle.codex32_calls.proofs.encode.put_encoded_payload.Goals as goal

pub returns-in_err-validate_payload-clause-refused : goal.returns-in_err-validate_payload-clause-refused
returns-in_err-validate_payload-clause-refused c =
    let p = err_from_is_err_and c.from_residual-in_err-validate_payload.result c.from_residual-in_err-validate_payload.ensures.1 in
    rw p.1
    (rw p.2
    (refused-from_payload c.args.threshold c.args.identifier.now c.args.share_index c.args.payload.now _ c.in_err-validate_payload.field-0.0 c.in_ok-header.ensures.fine c.in_err-validate_payload.ensures))

pub returns-clause-value : goal.returns-clause-value
returns-clause-value c =
    MatchResult-weaker c.put_made.result c.put_made.ensures
    (λ n put. record {
      text = take c.in_ok-count.count c.put_payload.new.buffer;
      is_text = record {
        header = c.in_ok-header.header;
        header_is = c.in_ok-header.ensures;
        is_payload = c.in_ok-validate_payload.ensures;
        counted = c.in_ok-count.ensures.refused;
        is_encoded = c.in_ok-count.ensures.text;
      };
      put = put;
    })
    (λ _ _. tt)

pub returns-clause-refused : goal.returns-clause-refused
returns-clause-refused c =
    refused-from_made (IsEncodePayloadFault c.args.threshold c.args.identifier.now c.args.share_index c.args.payload.now (length c.args.text.now))
    c.put_made.result _ _ _ c.put_made.ensures
    (λ lacks. record {
      text = take c.in_ok-count.count c.put_payload.new.buffer;
      is_text = record {
        header = c.in_ok-header.header;
        header_is = c.in_ok-header.ensures;
        is_payload = c.in_ok-validate_payload.ensures;
        counted = c.in_ok-count.ensures.refused;
        is_encoded = c.in_ok-count.ensures.text;
      };
      lacks = lacks;
    })

pub returns-clause-same : goal.returns-clause-same
returns-clause-same c = MatchResult-weaker c.put_made.result c.put_made.ensures (λ _ _. tt) (λ _ h. h.2)

pub returns-in_err-header-clause-accepts : goal.returns-in_err-header-clause-accepts
returns-in_err-header-clause-accepts c can = absurd (let k = sym can.fine ∙ c.in_err-header.ensures in cc)

pub returns-in_err-validate_payload-clause-accepts : goal.returns-in_err-validate_payload-clause-accepts
returns-in_err-validate_payload-clause-accepts c can =
    let room = length c.args.text.now in
    let e = c.in_err-validate_payload.field-0.0 in
    absurd (no_encode_payload_fault c.args.threshold c.args.identifier.now c.args.share_index c.args.payload.now room e can
    (refused-from_payload c.args.threshold c.args.identifier.now c.args.share_index c.args.payload.now room e c.in_ok-header.ensures.fine c.in_err-validate_payload.ensures))

pub returns-in_err-count-clause-accepts : goal.returns-in_err-count-clause-accepts
returns-in_err-count-clause-accepts c can = absurd (let k = sym can.counted ∙ c.in_err-count.ensures.refused.1 in cc)

pub returns-clause-accepts : goal.returns-clause-accepts
returns-clause-accepts c can =
    accepts-from_made c.put_made.result _ _ _ c.put_made.ensures
    (λ lacks. no_encode_payload_fault c.args.threshold c.args.identifier.now c.args.share_index c.args.payload.now (length c.args.text.now) refusals.NoRoom can
    (record {
      text = take c.in_ok-count.count c.put_payload.new.buffer;
      is_text = record {
        header = c.in_ok-header.header;
        header_is = c.in_ok-header.ensures;
        is_payload = c.in_ok-validate_payload.ensures;
        counted = c.in_ok-count.ensures.refused;
        is_encoded = c.in_ok-count.ensures.text;
      };
      lacks = lacks;
    }))
