use Rattle.std.proofs.Common.{◌≡◌, ◌<◌, inl, length, refl, arith}
use Rattle.std.proofs.lemmas.Result.{err_from_is_err_and}
use Rattle.blech32.specs.Words.{blech32_code}
use Rattle.bech32_more_calls.proofs.Near.{near_unread, puts_none, read_memory, read_memory_or_kept}
use Rattle.bech32_more_calls.proofs.confidential.nearest.put_nearest.Goals as goal

pub returns-then-not-is_asked-clause-refused : goal.returns-then-not-is_asked-clause-refused
returns-then-not-is_asked-clause-refused c = inl (λ few. let yes = c.is_asked.ensures.1 few in let no = c.if-not-is_asked.true in absurd cc)

pub returns-then-not-is_asked-clause-accepts : goal.returns-then-not-is_asked-clause-accepts
returns-then-not-is_asked-clause-accepts c = λ few is. let yes = c.is_asked.ensures.1 few in let no = c.if-not-is_asked.true in absurd cc

pub returns-in_err-reading-clause-refused : goal.returns-in_err-reading-clause-refused
returns-in_err-reading-clause-refused c =
    let few = c.is_asked.ensures.0 c.if-not-is_asked.false in
    let p = err_from_is_err_and c.from_residual.result c.from_residual.ensures.1 in
    rw p.1 (rw p.2 (inl (near_unread blech32_code c.args.bytes.now c.args.given.now c.args.errors c.in_err-reading.field-0.0 few c.in_err-reading.ensures)))

pub returns-in_err-reading-clause-accepts : goal.returns-in_err-reading-clause-accepts
returns-in_err-reading-clause-accepts c few is =
    let p = err_from_is_err_and c.from_residual.result c.from_residual.ensures.1 in
    rw p.1
    (rw p.2 (read_memory blech32_code c.args.bytes.now c.args.given.now c.args.errors c.in_err-reading.field-0.0 few is
    (near_unread blech32_code c.args.bytes.now c.args.given.now c.args.errors c.in_err-reading.field-0.0 few c.in_err-reading.ensures)))

pub returns-then-not-is_searched-clause-all : goal.returns-then-not-is_searched-clause-all
returns-then-not-is_searched-clause-all c = λ all.
    let few = c.is_asked.ensures.0 c.if-not-is_asked.false in
    let r = c.in_ok-reading.reading in
    let same = c.in_ok-reading.ensures.0 in
    let some : 0 < length blech32_code.generator = omega arith in
    puts_none blech32_code c.args.bytes.now c.args.given.now c.args.errors refl some r.hrp.now r.data_part.now c.args.texts.now few (rw same at r.is_reading.grammar) (rw same at c.in_ok-reading.ensures.1)
    (λ within. let yes = c.is_searched.ensures.1 within in let no = c.if-not-is_searched.true in absurd cc)

pub put_near-requires : goal.put_near-requires
put_near-requires c =
    let few = c.is_asked.ensures.0 c.if-not-is_asked.false in
    let within = c.is_searched.ensures.0 c.if-not-is_searched.false in
    record { lengths = c.in_ok-reading.ensures.1; asked = few; searched = within }

pub returns-clause-all : goal.returns-clause-all
returns-clause-all c = rw c.in_ok-reading.ensures.0 at c.put_near.ensures.all

pub returns-clause-first : goal.returns-clause-first
returns-clause-first c = rw c.in_ok-reading.ensures.0 at c.put_near.ensures.first

pub returns-clause-room : goal.returns-clause-room
returns-clause-room c = rw c.in_ok-reading.ensures.0 at c.put_near.ensures.room

pub returns-clause-accepts : goal.returns-clause-accepts
returns-clause-accepts c few is =
    let refused = rw c.in_ok-reading.ensures.0 at c.put_near.ensures.refused in
    read_memory_or_kept blech32_code c.args.bytes.now c.args.given.now c.args.errors c.args.memory.now c.put_near.new.memory c.put_near.result few is refused

pub returns-clause-refused : goal.returns-clause-refused
returns-clause-refused c = rw c.in_ok-reading.ensures.0 at c.put_near.ensures.refused
