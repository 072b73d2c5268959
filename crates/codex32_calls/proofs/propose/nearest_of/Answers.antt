use Rattle.std.proofs.Common.{length}
use Rattle.std.proofs.lemmas.Result.{MatchResult-weaker, err_from_is_err_and}
use Rattle.std.proofs.Common.{◌≡◌, inl, rules}
use Rattle.codex32_calls.specs.Propose.{IsProposeFault}
use Rattle.codex32_calls.proofs.Proposals.{no_room, only_memory, utf8-from_can}
use Rattle.codex32_calls.specs.declared.refusal.Refusal.TheVariants as refusals
use Rattle.codex32_calls.specs.declared.refusal.Refusal.{Refusal}
use Rattle.codex32.specs.declared.error.Codex32Error.TheVariants as errors
use Rattle.codex32_calls.proofs.Made.{refused-from_made}
use Rattle.codex32_calls.proofs.propose.nearest_of.Goals as goal

pub returns-in_err-nearest-clause-refused : goal.returns-in_err-nearest-clause-refused
returns-in_err-nearest-clause-refused c =
    let p = err_from_is_err_and c.from_residual-in_err-nearest.result c.from_residual-in_err-nearest.ensures.1 in
    rw p.1 (rw p.2 (rw c.in_ok-text.ensures.0 at c.in_err-nearest.ensures.refused (length c.args.proposed.now)))

pub returns-in_err-text-clause-accepts : goal.returns-in_err-text-clause-accepts
returns-in_err-text-clause-accepts c can = absurd (c.in_err-text.ensures.1 (utf8-from_can c.args.kind c.args.bytes.now (length c.args.proposed.now) can))

pub returns-in_err-validate-clause-accepts : goal.returns-in_err-validate-clause-accepts
returns-in_err-validate-clause-accepts c can =
    let p = err_from_is_err_and c.from_residual-in_err-validate.result c.from_residual-in_err-validate.ensures.1 in
    rw p.1
    (rw p.2
    (only_memory c.args.kind c.args.bytes.now (length c.args.proposed.now) (refusals.Text c.in_err-validate.field-0.0) can
    (utf8-from_can c.args.kind c.args.bytes.now (length c.args.proposed.now) can, rw c.in_ok-text.ensures.0 at c.in_err-validate.ensures)))

pub returns-in_err-nearest-clause-accepts : goal.returns-in_err-nearest-clause-accepts
returns-in_err-nearest-clause-accepts c can =
    let room = length c.args.proposed.now in
    let p = err_from_is_err_and c.from_residual-in_err-nearest.result c.from_residual-in_err-nearest.ensures.1 in
    rw p.1 (rw p.2 (only_memory c.args.kind c.args.bytes.now room c.in_err-nearest.field-0.0 can (rw c.in_ok-text.ensures.0 at c.in_err-nearest.ensures.refused room)))

pub returns-clause-value : goal.returns-clause-value
returns-clause-value c =
    let same : c.as_bytes.result.now ≡ c.in_ok-nearest.nearest.bytes = search rules in
    MatchResult-weaker c.put_made.result c.put_made.ensures
    (λ n put. record {
      framed = rw c.in_ok-text.ensures.0 at c.in_ok-validate.ensures;
      nearest = c.in_ok-nearest.nearest.bytes;
      is_nearest = rw c.in_ok-text.ensures.0 at c.in_ok-nearest.ensures.value;
      put = rw same at put;
    })
    (λ _ _. tt)

pub returns-clause-refused : goal.returns-clause-refused
returns-clause-refused c =
    let same : c.as_bytes.result.now ≡ c.in_ok-nearest.nearest.bytes = search rules in
    refused-from_made (IsProposeFault c.args.kind c.args.bytes.now (length c.args.proposed.now))
    c.put_made.result _ _ _ c.put_made.ensures
    (λ lacks. record {
      framed = rw c.in_ok-text.ensures.0 at c.in_ok-validate.ensures;
      nearest = c.in_ok-nearest.nearest.bytes;
      is_nearest = rw c.in_ok-text.ensures.0 at c.in_ok-nearest.ensures.value;
      lacks = rw same at lacks;
    })

pub returns-clause-accepts : goal.returns-clause-accepts
returns-clause-accepts c can =
    let same : c.as_bytes.result.now ≡ c.in_ok-nearest.nearest.bytes = search rules in
    refused-from_made (λ (e : Refusal). e ≡ refusals.Text errors.Memory)
    c.put_made.result _ _ _ c.put_made.ensures
    (λ lacks. absurd (no_room c.args.kind c.args.bytes.now (length c.args.proposed.now) can
    (record {
      framed = can.framed;
      nearest = c.in_ok-nearest.nearest.bytes;
      is_nearest = rw c.in_ok-text.ensures.0 at c.in_ok-nearest.ensures.value;
      lacks = rw same at lacks;
    })))

pub returns-clause-same : goal.returns-clause-same
returns-clause-same c = MatchResult-weaker c.put_made.result c.put_made.ensures (λ _ _. tt) (λ _ h. h.2)

pub returns-clause-memory : goal.returns-clause-memory
returns-clause-memory c =
    MatchResult-weaker c.put_made.result c.put_made.ensures
    (λ _ _. c.in_ok-nearest.ensures.memory) (λ _ _. inl c.in_ok-nearest.ensures.memory)
