use Rattle.std.specs.Prelude.{string_bytes}
use Rattle.std.proofs.Common.{rules, ◌≡◌, inl, inr, refl}
use Rattle.std.proofs.lemmas.Result.{err_from_is_err_and}
use Rattle.bech32_decode.specs.Text.{IsInGrammar}
use Rattle.bech32_calls.specs.Listing.{EndsWith}
use Rattle.bech32_calls.specs.NearEdits.{IsEditsFaultOrKept}
use Rattle.bech32_calls.specs.declared.refusal.Refusal.TheVariants.{Memory}
use Rattle.bech32_calls.proofs.ByNumber.{more_for}
use Rattle.bech32_calls.proofs.Edited.{edits_all, edits_first, edits_refused, grammar_memory_by, lacks_listed}
use Rattle.bech32_calls.proofs.Ending.{ends_err, ends_ok, err_more, returns_memory}
use Rattle.bech32_calls.proofs.near_edits.put_near_edits.Goals as goal

pub returns-in_err-reading-clause-accepts : goal.returns-in_err-reading-clause-accepts
returns-in_err-reading-clause-accepts c is =
    let p = err_from_is_err_and c.from_residual.result c.from_residual.ensures.1 in
    rw p.1 (rw p.2 (grammar_memory_by c.args.checksum c.args.bytes.now is c.in_err-reading.field-0.0 c.in_err-reading.ensures))

pub returns-clause-all : goal.returns-clause-all
returns-clause-all c =
    let back : EndsWith c.args.memory.now c.give_memory_back.new.memory c.list_rows-listed.result c.give_memory_back.result = search rules in
    let r = c.in_ok-reading.reading in
    let grammar : IsInGrammar r.text.now = (r.hrp.now, r.data_part.now, r.is_reading.grammar) in
    let listed = edits_all c.args.checksum r.text.now c.args.kinds.now c.list_rows-listed.new.kinds c.args.locations.now c.list_rows-listed.new.places c.args.texts.now c.list_rows-listed.new.texts
    grammar c.list_rows-listed.result c.edits_by.result (λ v. v.items) (λ m. m.edit) (λ m. string_bytes m.text) c.edits_by.ensures c.list_rows-listed.ensures in
    ends_ok c.args.memory.now c.give_memory_back.new.memory c.list_rows-listed.result c.give_memory_back.result back _ (rw c.in_ok-reading.ensures.0 at listed)

pub returns-clause-first : goal.returns-clause-first
returns-clause-first c =
    let back : EndsWith c.args.memory.now c.give_memory_back.new.memory c.list_rows-listed.result c.give_memory_back.result = search rules in
    let r = c.in_ok-reading.reading in
    let grammar : IsInGrammar r.text.now = (r.hrp.now, r.data_part.now, r.is_reading.grammar) in
    let listed = edits_first c.args.checksum r.text.now c.args.kinds.now c.list_rows-listed.new.kinds c.args.locations.now c.list_rows-listed.new.places c.args.texts.now c.list_rows-listed.new.texts
    grammar c.list_rows-listed.result c.edits_by.result (λ v. v.items) (λ m. m.edit) (λ m. string_bytes m.text) c.edits_by.ensures c.list_rows-listed.ensures in
    ends_ok c.args.memory.now c.give_memory_back.new.memory c.list_rows-listed.result c.give_memory_back.result back _ (rw c.in_ok-reading.ensures.0 at listed)

pub returns-clause-room : goal.returns-clause-room
returns-clause-room c =
    let back : EndsWith c.args.memory.now c.give_memory_back.new.memory c.list_rows-listed.result c.give_memory_back.result = search rules in
    let r = c.in_ok-reading.reading in
    let grammar : IsInGrammar r.text.now = (r.hrp.now, r.data_part.now, r.is_reading.grammar) in
    let listed = edits_first c.args.checksum r.text.now c.args.kinds.now c.list_rows-listed.new.kinds c.args.locations.now c.list_rows-listed.new.places c.args.texts.now c.list_rows-listed.new.texts
    grammar c.list_rows-listed.result c.edits_by.result (λ v. v.items) (λ m. m.edit) (λ m. string_bytes m.text) c.edits_by.ensures c.list_rows-listed.ensures in
    ends_ok c.args.memory.now c.give_memory_back.new.memory c.list_rows-listed.result c.give_memory_back.result back _
    (lacks_listed c.args.checksum c.args.bytes.now c.args.kinds.now c.list_rows-listed.new.kinds c.args.locations.now c.list_rows-listed.new.places c.args.texts.now c.list_rows-listed.new.texts
    c.list_rows-listed.result (rw c.in_ok-reading.ensures.0 at listed))

pub returns-clause-accepts : goal.returns-clause-accepts
returns-clause-accepts c is =
    let back : EndsWith c.args.memory.now c.give_memory_back.new.memory c.list_rows-listed.result c.give_memory_back.result = search rules in
    let r = c.in_ok-reading.reading in
    let grammar : IsInGrammar r.text.now = (r.hrp.now, r.data_part.now, r.is_reading.grammar) in
    let refused = edits_refused c.args.checksum r.text.now c.args.kinds.now c.list_rows-listed.new.kinds c.args.locations.now c.list_rows-listed.new.places c.args.texts.now c.list_rows-listed.new.texts
    grammar c.list_rows-listed.result c.edits_by.result (λ v. v.items) (λ m. m.edit) (λ m. string_bytes m.text) c.edits_by.ensures c.list_rows-listed.ensures in
    ends_err c.args.memory.now c.give_memory_back.new.memory c.list_rows-listed.result c.give_memory_back.result back (λ e. e ≡ Memory) (err_more _ (λ e. e ≡ Memory) c.list_rows-listed.result (λ e h. h.0) refused) (λ _. refl)

pub returns-clause-refused : goal.returns-clause-refused
returns-clause-refused c =
    let back : EndsWith c.args.memory.now c.give_memory_back.new.memory c.list_rows-listed.result c.give_memory_back.result = search rules in
    let r = c.in_ok-reading.reading in
    let grammar : IsInGrammar r.text.now = (r.hrp.now, r.data_part.now, r.is_reading.grammar) in
    let refused = edits_refused c.args.checksum r.text.now c.args.kinds.now c.list_rows-listed.new.kinds c.args.locations.now c.list_rows-listed.new.places c.args.texts.now c.list_rows-listed.new.texts
    grammar c.list_rows-listed.result c.edits_by.result (λ v. v.items) (λ m. m.edit) (λ m. string_bytes m.text) c.edits_by.ensures c.list_rows-listed.ensures in
    let P = IsEditsFaultOrKept c.args.checksum c.args.bytes.now c.args.memory.now c.give_memory_back.new.memory in
    ends_err c.args.memory.now c.give_memory_back.new.memory c.list_rows-listed.result c.give_memory_back.result back P
    (err_more _ P c.list_rows-listed.result (λ e h. inl (rw c.in_ok-reading.ensures.0 at h.1)) refused)
    (λ kept. inr (refl, kept, more_for _ (λ _. IsInGrammar c.args.bytes.now) (λ code _. rw c.in_ok-reading.ensures.0 at grammar) c.args.checksum c.in_ok-reading.ensures.1))

pub returns-clause-same : goal.returns-clause-same
returns-clause-same c =
    let back : EndsWith c.args.memory.now c.give_memory_back.new.memory c.list_rows-listed.result c.give_memory_back.result = search rules in
    let r = c.in_ok-reading.reading in
    let grammar : IsInGrammar r.text.now = (r.hrp.now, r.data_part.now, r.is_reading.grammar) in
    let refused = edits_refused c.args.checksum r.text.now c.args.kinds.now c.list_rows-listed.new.kinds c.args.locations.now c.list_rows-listed.new.places c.args.texts.now c.list_rows-listed.new.texts
    grammar c.list_rows-listed.result c.edits_by.result (λ v. v.items) (λ m. m.edit) (λ m. string_bytes m.text) c.edits_by.ensures c.list_rows-listed.ensures in
    ends_err c.args.memory.now c.give_memory_back.new.memory c.list_rows-listed.result c.give_memory_back.result back _ (err_more _ _ c.list_rows-listed.result (λ e h. inl h.2) refused) (λ kept. inr (refl, kept))

pub returns-clause-memory : goal.returns-clause-memory
returns-clause-memory c =
    let back : EndsWith c.args.memory.now c.give_memory_back.new.memory c.list_rows-listed.result c.give_memory_back.result = search rules in
    returns_memory c.args.memory.now c.give_memory_back.new.memory c.list_rows-listed.result c.give_memory_back.result back
