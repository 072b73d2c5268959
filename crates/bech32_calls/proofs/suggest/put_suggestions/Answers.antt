use Rattle.std.specs.Prelude.{string_bytes}
use Rattle.std.proofs.Common.{rules, ◌≡◌, inl, inr, refl, subst, sym}
use Rattle.std.proofs.lemmas.Result.{err_from_is_err_and}
use Rattle.bech32_hrp.specs.Hrp.{IsHrp}
use Rattle.bech32_hrp.specs.HrpBytes.{hrp_bytes}
use Rattle.bech32_calls.specs.Listing.{EndsWith}
use Rattle.bech32_calls.specs.Suggest.{IsSuggestFaultOrKept}
use Rattle.bech32_calls.specs.declared.refusal.Refusal.TheVariants.{Memory, NotUtf8, Text}
use Rattle.bech32_calls.proofs.Ending.{ends_err, ends_ok, err_more, returns_memory}
use Rattle.bech32_calls.proofs.Suggested.{lacks_listed, only_memory, suggested_all, suggested_first, suggested_refused}
use Rattle.bech32_calls.proofs.suggest.put_suggestions.Goals as goal

pub returns-in_err-hrp-clause-accepts : goal.returns-in_err-hrp-clause-accepts
returns-in_err-hrp-clause-accepts c is typed =
    let p = err_from_is_err_and c.from_residual.result c.from_residual.ensures.1 in
    rw p.1 (rw p.2 (only_memory c.args.bytes.now c.args.part.now c.in_err-hrp.field-0.0 is typed (inl c.in_err-hrp.ensures)))

pub returns-in_err-text-clause-accepts : goal.returns-in_err-text-clause-accepts
returns-in_err-text-clause-accepts c is typed =
    let p = err_from_is_err_and c.from_residual-in_err-text.result c.from_residual-in_err-text.ensures.1 in
    rw p.1 (rw p.2 (only_memory c.args.bytes.now c.args.part.now NotUtf8 is typed (inr (is, c.in_err-text.ensures))))

pub returns-in_err-text-clause-refused : goal.returns-in_err-text-clause-refused
returns-in_err-text-clause-refused c =
    let p = err_from_is_err_and c.from_residual-in_err-text.result c.from_residual-in_err-text.ensures.1 in
    rw p.1 (rw p.2 (inl (inr (c.in_ok-hrp.ensures.0, c.in_err-text.ensures))))

pub returns-in_err-read-clause-accepts : goal.returns-in_err-read-clause-accepts
returns-in_err-read-clause-accepts c is typed =
    let fault = rw c.in_ok-text.ensures.0 at c.in_err-read.ensures.said in
    let p = err_from_is_err_and c.from_residual-in_err-read.result c.from_residual-in_err-read.ensures.1 in
    rw p.1 (rw p.2 (only_memory c.args.bytes.now c.args.part.now (Text c.in_err-read.field-0.0) is typed (inr (is, (c.in_ok-text.ensures.1, fault.0, fault.1)))))

pub returns-in_err-read-clause-refused : goal.returns-in_err-read-clause-refused
returns-in_err-read-clause-refused c =
    let fault = rw c.in_ok-text.ensures.0 at c.in_err-read.ensures.said in
    let p = err_from_is_err_and c.from_residual-in_err-read.result c.from_residual-in_err-read.ensures.1 in
    rw p.1 (rw p.2 (inl (inr (c.in_ok-hrp.ensures.0, (c.in_ok-text.ensures.1, fault.0, fault.1)))))

pub suggest_for_reading-requires : goal.suggest_for_reading-requires
suggest_for_reading-requires c = c.in_ok-read.ensures.read

pub returns-clause-all : goal.returns-clause-all
returns-clause-all c =
    let back : EndsWith c.args.memory.now c.give_memory_back.new.memory c.list_rows-listed.result c.give_memory_back.result = search rules in
    let t = c.in_ok-text.text.now in
    let hrp : IsHrp (hrp_bytes c.in_ok-hrp.hrp) = subst IsHrp (sym c.in_ok-hrp.ensures.1) c.in_ok-hrp.ensures.0 in
    let listed = suggested_all t (hrp_bytes c.in_ok-hrp.hrp) c.args.kinds.now c.list_rows-listed.new.kinds c.args.places.now c.list_rows-listed.new.places c.args.texts.now c.list_rows-listed.new.texts
    hrp c.list_rows-listed.result c.suggest_for_reading.result (λ v. v.items) (λ s. string_bytes s.text) (λ s. s.mending) (λ s. s.place) c.suggest_for_reading.ensures c.list_rows-listed.ensures in
    ends_ok c.args.memory.now c.give_memory_back.new.memory c.list_rows-listed.result c.give_memory_back.result back _ (rw (c.in_ok-hrp.ensures.1, c.in_ok-text.ensures.0) at listed)

pub returns-clause-first : goal.returns-clause-first
returns-clause-first c =
    let back : EndsWith c.args.memory.now c.give_memory_back.new.memory c.list_rows-listed.result c.give_memory_back.result = search rules in
    let t = c.in_ok-text.text.now in
    let hrp : IsHrp (hrp_bytes c.in_ok-hrp.hrp) = subst IsHrp (sym c.in_ok-hrp.ensures.1) c.in_ok-hrp.ensures.0 in
    let listed = suggested_first t (hrp_bytes c.in_ok-hrp.hrp) c.args.kinds.now c.list_rows-listed.new.kinds c.args.places.now c.list_rows-listed.new.places c.args.texts.now c.list_rows-listed.new.texts
    hrp c.list_rows-listed.result c.suggest_for_reading.result (λ v. v.items) (λ s. string_bytes s.text) (λ s. s.mending) (λ s. s.place) c.suggest_for_reading.ensures c.list_rows-listed.ensures in
    ends_ok c.args.memory.now c.give_memory_back.new.memory c.list_rows-listed.result c.give_memory_back.result back _ (rw (c.in_ok-hrp.ensures.1, c.in_ok-text.ensures.0) at listed)

pub returns-clause-room : goal.returns-clause-room
returns-clause-room c =
    let back : EndsWith c.args.memory.now c.give_memory_back.new.memory c.list_rows-listed.result c.give_memory_back.result = search rules in
    let t = c.in_ok-text.text.now in
    let hrp : IsHrp (hrp_bytes c.in_ok-hrp.hrp) = subst IsHrp (sym c.in_ok-hrp.ensures.1) c.in_ok-hrp.ensures.0 in
    let listed = suggested_first t (hrp_bytes c.in_ok-hrp.hrp) c.args.kinds.now c.list_rows-listed.new.kinds c.args.places.now c.list_rows-listed.new.places c.args.texts.now c.list_rows-listed.new.texts
    hrp c.list_rows-listed.result c.suggest_for_reading.result (λ v. v.items) (λ s. string_bytes s.text) (λ s. s.mending) (λ s. s.place) c.suggest_for_reading.ensures c.list_rows-listed.ensures in
    ends_ok c.args.memory.now c.give_memory_back.new.memory c.list_rows-listed.result c.give_memory_back.result back _
    (lacks_listed c.args.bytes.now c.args.part.now c.args.kinds.now c.list_rows-listed.new.kinds c.args.places.now c.list_rows-listed.new.places c.args.texts.now c.list_rows-listed.new.texts
    c.list_rows-listed.result (rw (c.in_ok-hrp.ensures.1, c.in_ok-text.ensures.0) at listed))

pub returns-clause-accepts : goal.returns-clause-accepts
returns-clause-accepts c is can =
    let back : EndsWith c.args.memory.now c.give_memory_back.new.memory c.list_rows-listed.result c.give_memory_back.result = search rules in
    let t = c.in_ok-text.text.now in
    let hrp : IsHrp (hrp_bytes c.in_ok-hrp.hrp) = subst IsHrp (sym c.in_ok-hrp.ensures.1) c.in_ok-hrp.ensures.0 in
    let refused = suggested_refused t (hrp_bytes c.in_ok-hrp.hrp) c.args.kinds.now c.list_rows-listed.new.kinds c.args.places.now c.list_rows-listed.new.places c.args.texts.now c.list_rows-listed.new.texts
    hrp c.list_rows-listed.result c.suggest_for_reading.result (λ v. v.items) (λ s. string_bytes s.text) (λ s. s.mending) (λ s. s.place) c.suggest_for_reading.ensures c.list_rows-listed.ensures in
    ends_err c.args.memory.now c.give_memory_back.new.memory c.list_rows-listed.result c.give_memory_back.result back (λ e. e ≡ Memory) (err_more _ (λ e. e ≡ Memory) c.list_rows-listed.result (λ e h. h.0) refused) (λ _. refl)

pub returns-clause-refused : goal.returns-clause-refused
returns-clause-refused c =
    let back : EndsWith c.args.memory.now c.give_memory_back.new.memory c.list_rows-listed.result c.give_memory_back.result = search rules in
    let t = c.in_ok-text.text.now in
    let hrp : IsHrp (hrp_bytes c.in_ok-hrp.hrp) = subst IsHrp (sym c.in_ok-hrp.ensures.1) c.in_ok-hrp.ensures.0 in
    let refused = suggested_refused t (hrp_bytes c.in_ok-hrp.hrp) c.args.kinds.now c.list_rows-listed.new.kinds c.args.places.now c.list_rows-listed.new.places c.args.texts.now c.list_rows-listed.new.texts
    hrp c.list_rows-listed.result c.suggest_for_reading.result (λ v. v.items) (λ s. string_bytes s.text) (λ s. s.mending) (λ s. s.place) c.suggest_for_reading.ensures c.list_rows-listed.ensures in
    let P = IsSuggestFaultOrKept c.args.bytes.now c.args.part.now c.args.memory.now c.give_memory_back.new.memory in
    ends_err c.args.memory.now c.give_memory_back.new.memory c.list_rows-listed.result c.give_memory_back.result back P
    (err_more _ P c.list_rows-listed.result (λ e h. inl (inr (c.in_ok-hrp.ensures.0, rw c.in_ok-text.ensures.0 at h.1))) refused)
    (λ kept. inr (refl, kept, c.in_ok-hrp.ensures.0, (c.in_ok-text.ensures.1, rw c.in_ok-text.ensures.0 at c.in_ok-read.ensures.said)))

pub returns-clause-same : goal.returns-clause-same
returns-clause-same c =
    let back : EndsWith c.args.memory.now c.give_memory_back.new.memory c.list_rows-listed.result c.give_memory_back.result = search rules in
    let t = c.in_ok-text.text.now in
    let hrp : IsHrp (hrp_bytes c.in_ok-hrp.hrp) = subst IsHrp (sym c.in_ok-hrp.ensures.1) c.in_ok-hrp.ensures.0 in
    let refused = suggested_refused t (hrp_bytes c.in_ok-hrp.hrp) c.args.kinds.now c.list_rows-listed.new.kinds c.args.places.now c.list_rows-listed.new.places c.args.texts.now c.list_rows-listed.new.texts
    hrp c.list_rows-listed.result c.suggest_for_reading.result (λ v. v.items) (λ s. string_bytes s.text) (λ s. s.mending) (λ s. s.place) c.suggest_for_reading.ensures c.list_rows-listed.ensures in
    ends_err c.args.memory.now c.give_memory_back.new.memory c.list_rows-listed.result c.give_memory_back.result back _ (err_more _ _ c.list_rows-listed.result (λ e h. inl h.2) refused) (λ kept. inr (refl, kept))

pub returns-clause-memory : goal.returns-clause-memory
returns-clause-memory c =
    let back : EndsWith c.args.memory.now c.give_memory_back.new.memory c.list_rows-listed.result c.give_memory_back.result = search rules in
    returns_memory c.args.memory.now c.give_memory_back.new.memory c.list_rows-listed.result c.give_memory_back.result back
