use Rattle.std.specs.Prelude.{string_bytes}
use Rattle.std.proofs.Common.{rules, ◌≡◌, ◌≤◌, inl, inr, refl, arith}
use Rattle.std.proofs.lemmas.Result.{err_from_is_err_and}
use Rattle.bech32_calls.specs.Listing.{EndsWith}
use Rattle.bech32_calls.specs.Nearest.{IsNearFaultOrKept}
use Rattle.bech32_calls.specs.declared.refusal.Refusal.TheVariants.{Memory}
use Rattle.bech32_calls.proofs.Ending.{ends_err, ends_ok, err_more, returns_memory}
use Rattle.bech32_calls.proofs.Few.{few_listed}
use Rattle.bech32_calls.proofs.Near.{kept_of_read, long_listed, near_all, near_first, near_refused, near_unread_by, read_memory_by}
use Rattle.bech32_calls.proofs.nearest.put_nearest.Goals as goal

pub returns-in_err-reading-clause-refused : goal.returns-in_err-reading-clause-refused
returns-in_err-reading-clause-refused c =
    let few : c.args.errors ≤ 2 = omega arith in
    let p = err_from_is_err_and c.from_residual.result c.from_residual.ensures.1 in
    rw p.1 (rw p.2 (inl (near_unread_by c.args.checksum c.args.bytes.now c.args.given.now c.args.errors c.in_err-reading.field-0.0 few c.in_err-reading.ensures)))

pub returns-in_err-reading-clause-accepts : goal.returns-in_err-reading-clause-accepts
returns-in_err-reading-clause-accepts c few is =
    let p = err_from_is_err_and c.from_residual.result c.from_residual.ensures.1 in
    rw p.1
    (rw p.2 (read_memory_by c.args.checksum c.args.bytes.now c.args.given.now c.args.errors few is c.in_err-reading.field-0.0
    (near_unread_by c.args.checksum c.args.bytes.now c.args.given.now c.args.errors c.in_err-reading.field-0.0 few c.in_err-reading.ensures)))

pub near_by-requires : goal.near_by-requires
near_by-requires c = (search rules, c.in_ok-reading.ensures.1)

pub returns-clause-all : goal.returns-clause-all
returns-clause-all c =
    let back : EndsWith c.args.memory.now c.give_memory_back.new.memory c.list_texts-listed.result c.give_memory_back.result = search rules in
    let few : c.args.errors ≤ 2 = omega arith in
    let t = c.in_ok-reading.reading.text.now in
    let listed = near_all c.args.checksum t c.args.given.now c.args.errors few c.args.texts.now c.list_texts-listed.new.texts c.list_texts-listed.result
    c.near_by.result (λ v. v.items) (λ m. (m.listing, string_bytes m.text)) c.near_by.ensures c.list_texts-listed.ensures in
    ends_ok c.args.memory.now c.give_memory_back.new.memory c.list_texts-listed.result c.give_memory_back.result back _ (rw c.in_ok-reading.ensures.0 at listed)

pub returns-clause-first : goal.returns-clause-first
returns-clause-first c =
    let back : EndsWith c.args.memory.now c.give_memory_back.new.memory c.list_texts-listed.result c.give_memory_back.result = search rules in
    let few : c.args.errors ≤ 2 = omega arith in
    let t = c.in_ok-reading.reading.text.now in
    let listed = near_first c.args.checksum t c.args.given.now c.args.errors few c.args.texts.now c.list_texts-listed.new.texts c.list_texts-listed.result
    c.near_by.result (λ v. v.items) (λ m. (m.listing, string_bytes m.text)) c.near_by.ensures c.list_texts-listed.ensures in
    ends_ok c.args.memory.now c.give_memory_back.new.memory c.list_texts-listed.result c.give_memory_back.result back _ (rw c.in_ok-reading.ensures.0 at listed)

pub returns-clause-few : goal.returns-clause-few
returns-clause-few c none =
    let back : EndsWith c.args.memory.now c.give_memory_back.new.memory c.list_texts-listed.result c.give_memory_back.result = search rules in
    let few : c.args.errors ≤ 2 = omega arith in
    let t = c.in_ok-reading.reading.text.now in
    let all = near_all c.args.checksum t c.args.given.now c.args.errors few c.args.texts.now c.list_texts-listed.new.texts c.list_texts-listed.result
    c.near_by.result (λ v. v.items) (λ m. (m.listing, string_bytes m.text)) c.near_by.ensures c.list_texts-listed.ensures in
    let first = near_first c.args.checksum t c.args.given.now c.args.errors few c.args.texts.now c.list_texts-listed.new.texts c.list_texts-listed.result
    c.near_by.result (λ v. v.items) (λ m. (m.listing, string_bytes m.text)) c.near_by.ensures c.list_texts-listed.ensures in
    ends_ok c.args.memory.now c.give_memory_back.new.memory c.list_texts-listed.result c.give_memory_back.result back _
    (few_listed c.args.checksum c.args.bytes.now c.args.given.now c.args.errors c.args.texts.now c.list_texts-listed.new.texts none c.list_texts-listed.result
    (rw c.in_ok-reading.ensures.0 at all) (rw c.in_ok-reading.ensures.0 at first))

pub returns-clause-room : goal.returns-clause-room
returns-clause-room c =
    let back : EndsWith c.args.memory.now c.give_memory_back.new.memory c.list_texts-listed.result c.give_memory_back.result = search rules in
    let few : c.args.errors ≤ 2 = omega arith in
    let t = c.in_ok-reading.reading.text.now in
    let listed = near_first c.args.checksum t c.args.given.now c.args.errors few c.args.texts.now c.list_texts-listed.new.texts c.list_texts-listed.result
    c.near_by.result (λ v. v.items) (λ m. (m.listing, string_bytes m.text)) c.near_by.ensures c.list_texts-listed.ensures in
    ends_ok c.args.memory.now c.give_memory_back.new.memory c.list_texts-listed.result c.give_memory_back.result back _
    (long_listed c.args.checksum c.args.bytes.now c.args.given.now c.args.errors c.args.texts.now c.list_texts-listed.new.texts c.list_texts-listed.result
    (rw c.in_ok-reading.ensures.0 at listed))

pub returns-clause-accepts : goal.returns-clause-accepts
returns-clause-accepts c few is =
    let back : EndsWith c.args.memory.now c.give_memory_back.new.memory c.list_texts-listed.result c.give_memory_back.result = search rules in
    let t = c.in_ok-reading.reading.text.now in
    let refused = near_refused c.args.checksum t c.args.given.now c.args.errors few c.args.texts.now c.list_texts-listed.new.texts c.list_texts-listed.result
    c.near_by.result (λ v. v.items) (λ m. (m.listing, string_bytes m.text)) c.near_by.ensures c.list_texts-listed.ensures in
    ends_err c.args.memory.now c.give_memory_back.new.memory c.list_texts-listed.result c.give_memory_back.result back (λ e. e ≡ Memory)
    (err_more _ (λ e. e ≡ Memory) c.list_texts-listed.result (λ e h. read_memory_by c.args.checksum c.args.bytes.now c.args.given.now c.args.errors few is e (rw c.in_ok-reading.ensures.0 at h.0)) refused)
    (λ _. refl)

pub returns-clause-refused : goal.returns-clause-refused
returns-clause-refused c =
    let back : EndsWith c.args.memory.now c.give_memory_back.new.memory c.list_texts-listed.result c.give_memory_back.result = search rules in
    let few : c.args.errors ≤ 2 = omega arith in
    let t = c.in_ok-reading.reading.text.now in
    let refused = near_refused c.args.checksum t c.args.given.now c.args.errors few c.args.texts.now c.list_texts-listed.new.texts c.list_texts-listed.result
    c.near_by.result (λ v. v.items) (λ m. (m.listing, string_bytes m.text)) c.near_by.ensures c.list_texts-listed.ensures in
    let r = c.in_ok-reading.reading in
    let P = IsNearFaultOrKept c.args.checksum c.args.bytes.now c.args.given.now c.args.errors c.args.memory.now c.give_memory_back.new.memory in
    ends_err c.args.memory.now c.give_memory_back.new.memory c.list_texts-listed.result c.give_memory_back.result back P
    (err_more _ P c.list_texts-listed.result (λ e h. inl (rw c.in_ok-reading.ensures.0 at h.0)) refused)
    (λ kept. kept_of_read c.args.checksum c.args.bytes.now c.args.given.now c.args.errors c.args.memory.now c.give_memory_back.new.memory r.hrp.now r.data_part.now few
    (rw c.in_ok-reading.ensures.0 at r.is_reading.grammar) (rw c.in_ok-reading.ensures.0 at c.in_ok-reading.ensures.1) kept)

pub returns-clause-same : goal.returns-clause-same
returns-clause-same c =
    let back : EndsWith c.args.memory.now c.give_memory_back.new.memory c.list_texts-listed.result c.give_memory_back.result = search rules in
    let few : c.args.errors ≤ 2 = omega arith in
    let t = c.in_ok-reading.reading.text.now in
    let refused = near_refused c.args.checksum t c.args.given.now c.args.errors few c.args.texts.now c.list_texts-listed.new.texts c.list_texts-listed.result
    c.near_by.result (λ v. v.items) (λ m. (m.listing, string_bytes m.text)) c.near_by.ensures c.list_texts-listed.ensures in
    ends_err c.args.memory.now c.give_memory_back.new.memory c.list_texts-listed.result c.give_memory_back.result back _ (err_more _ _ c.list_texts-listed.result (λ e h. inl h.1) refused) (λ kept. inr (refl, kept))

pub returns-clause-memory : goal.returns-clause-memory
returns-clause-memory c =
    let back : EndsWith c.args.memory.now c.give_memory_back.new.memory c.list_texts-listed.result c.give_memory_back.result = search rules in
    returns_memory c.args.memory.now c.give_memory_back.new.memory c.list_texts-listed.result c.give_memory_back.result back
