use Rattle.std.specs.Prelude.{string_bytes}
use Rattle.std.proofs.Common.{rules, inl, inr, refl}
use Rattle.blech32.specs.Words.{blech32_code}
use Rattle.bech32_calls.specs.Listing.{EndsWith}
use Rattle.bech32_calls.proofs.Ending.{ends_err, ends_ok, err_more, returns_memory}
use Rattle.bech32_more_calls.specs.confidential.Nearest.{IsLiquidNearFaultOrKept, IsLiquidSearched}
use Rattle.bech32_more_calls.proofs.Near.{kept_of_read, long_listed, near_all, near_first, near_refused}
use Rattle.bech32_more_calls.proofs.confidential.nearest.put_near.Goals as goal

pub near_to-requires : goal.near_to-requires
near_to-requires c = (search rules, c.requires.lengths)

pub returns-clause-all : goal.returns-clause-all
returns-clause-all c =
    let back : EndsWith c.args.memory.now c.give_memory_back.new.memory c.list_texts-listed.result c.give_memory_back.result = search rules in
    let few = c.requires.asked in
    let r = c.args.reading.now in
    let t = r.text.now in
    let searched : IsLiquidSearched t c.args.given.now = (r.hrp.now, r.data_part.now, r.is_reading.grammar, c.requires.searched) in
    let listed = near_all blech32_code t c.args.given.now c.args.errors few searched c.args.texts.now c.list_texts-listed.new.texts c.list_texts-listed.result
    c.near_to.result (λ v. v.items) (λ m. (m.listing, string_bytes m.text)) c.near_to.ensures c.list_texts-listed.ensures in
    ends_ok c.args.memory.now c.give_memory_back.new.memory c.list_texts-listed.result c.give_memory_back.result back _ listed

pub returns-clause-first : goal.returns-clause-first
returns-clause-first c =
    let back : EndsWith c.args.memory.now c.give_memory_back.new.memory c.list_texts-listed.result c.give_memory_back.result = search rules in
    let few = c.requires.asked in
    let r = c.args.reading.now in
    let t = r.text.now in
    let searched : IsLiquidSearched t c.args.given.now = (r.hrp.now, r.data_part.now, r.is_reading.grammar, c.requires.searched) in
    let listed = near_first blech32_code t c.args.given.now c.args.errors few searched c.args.texts.now c.list_texts-listed.new.texts c.list_texts-listed.result
    c.near_to.result (λ v. v.items) (λ m. (m.listing, string_bytes m.text)) c.near_to.ensures c.list_texts-listed.ensures in
    ends_ok c.args.memory.now c.give_memory_back.new.memory c.list_texts-listed.result c.give_memory_back.result back _ listed

pub returns-clause-room : goal.returns-clause-room
returns-clause-room c =
    let back : EndsWith c.args.memory.now c.give_memory_back.new.memory c.list_texts-listed.result c.give_memory_back.result = search rules in
    let few = c.requires.asked in
    let r = c.args.reading.now in
    let t = r.text.now in
    let searched : IsLiquidSearched t c.args.given.now = (r.hrp.now, r.data_part.now, r.is_reading.grammar, c.requires.searched) in
    let listed = near_first blech32_code t c.args.given.now c.args.errors few searched c.args.texts.now c.list_texts-listed.new.texts c.list_texts-listed.result
    c.near_to.result (λ v. v.items) (λ m. (m.listing, string_bytes m.text)) c.near_to.ensures c.list_texts-listed.ensures in
    ends_ok c.args.memory.now c.give_memory_back.new.memory c.list_texts-listed.result c.give_memory_back.result back _
    (long_listed blech32_code t c.args.given.now c.args.errors c.args.texts.now c.list_texts-listed.new.texts c.list_texts-listed.result listed)

pub returns-clause-refused : goal.returns-clause-refused
returns-clause-refused c =
    let back : EndsWith c.args.memory.now c.give_memory_back.new.memory c.list_texts-listed.result c.give_memory_back.result = search rules in
    let few = c.requires.asked in
    let r = c.args.reading.now in
    let t = r.text.now in
    let searched : IsLiquidSearched t c.args.given.now = (r.hrp.now, r.data_part.now, r.is_reading.grammar, c.requires.searched) in
    let refused = near_refused blech32_code t c.args.given.now c.args.errors few searched c.args.texts.now c.list_texts-listed.new.texts c.list_texts-listed.result
    c.near_to.result (λ v. v.items) (λ m. (m.listing, string_bytes m.text)) c.near_to.ensures c.list_texts-listed.ensures in
    let P = IsLiquidNearFaultOrKept blech32_code t c.args.given.now c.args.errors c.args.memory.now c.give_memory_back.new.memory in
    ends_err c.args.memory.now c.give_memory_back.new.memory c.list_texts-listed.result c.give_memory_back.result back P
    (err_more _ P c.list_texts-listed.result (λ e h. inl h.0) refused)
    (λ kept. kept_of_read blech32_code t c.args.given.now c.args.errors c.args.memory.now c.give_memory_back.new.memory r.hrp.now r.data_part.now few r.is_reading.grammar
    c.requires.lengths c.requires.searched kept)

pub returns-clause-same : goal.returns-clause-same
returns-clause-same c =
    let back : EndsWith c.args.memory.now c.give_memory_back.new.memory c.list_texts-listed.result c.give_memory_back.result = search rules in
    let few = c.requires.asked in
    let r = c.args.reading.now in
    let t = r.text.now in
    let searched : IsLiquidSearched t c.args.given.now = (r.hrp.now, r.data_part.now, r.is_reading.grammar, c.requires.searched) in
    let refused = near_refused blech32_code t c.args.given.now c.args.errors few searched c.args.texts.now c.list_texts-listed.new.texts c.list_texts-listed.result
    c.near_to.result (λ v. v.items) (λ m. (m.listing, string_bytes m.text)) c.near_to.ensures c.list_texts-listed.ensures in
    ends_err c.args.memory.now c.give_memory_back.new.memory c.list_texts-listed.result c.give_memory_back.result back _ (err_more _ _ c.list_texts-listed.result (λ e h. inl h.1) refused) (λ kept. inr (refl, kept))

pub returns-clause-memory : goal.returns-clause-memory
returns-clause-memory c =
    let back : EndsWith c.args.memory.now c.give_memory_back.new.memory c.list_texts-listed.result c.give_memory_back.result = search rules in
    returns_memory c.args.memory.now c.give_memory_back.new.memory c.list_texts-listed.result c.give_memory_back.result back
