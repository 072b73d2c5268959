use Rattle.std.proofs.Common.{sym, length}
use Rattle.std.proofs.lemmas.Result.{err_from_is_err_and}
use Rattle.bech32_calls.specs.declared.refusal.Refusal.TheVariants.{Checksum}
use Rattle.bech32_calls.specs.Faults.{refusal_of_bytes}
use Rattle.bech32_calls.proofs.Mending.{mended_by_listing, mended_by_nothing, no_listing_there, text_fault_put, unread-from_lengths, unread_put}
use Rattle.bech32_calls.proofs.Unread.{unread}
use Rattle.bech32_calls.proofs.correct.corrected_by.Goals as goal

pub returns-in_err-reading-clause-refused : goal.returns-in_err-reading-clause-refused
returns-in_err-reading-clause-refused g c =
    let p = err_from_is_err_and c.from_residual.result c.from_residual.ensures.1 in
    rw p.1 (rw p.2 (text_fault_put c.args.text.now c.args.erasures.now (length c.args.locations.now) (length c.args.values.now) (length c.args.mended.now)
    (refusal_of_bytes c.in_err-reading.field-0.0) g.Ck.Checksum.code (unread c.args.text.now c.in_err-reading.field-0.0 c.in_err-reading.ensures)))

pub returns-in_err-validate_lengths-clause-refused : goal.returns-in_err-validate_lengths-clause-refused
returns-in_err-validate_lengths-clause-refused g c =
    let text = c.args.text.now in
    let code = g.Ck.Checksum.code in
    let r = c.in_ok-reading.reading in
    let e = c.in_err-validate_lengths.field-0.0 in
    let refused = rw c.in_ok-reading.ensures at c.in_err-validate_lengths.ensures in
    let p = err_from_is_err_and c.from_residual-in_err-validate_lengths.result c.from_residual-in_err-validate_lengths.ensures.1 in
    rw p.1 (rw p.2 (unread_put text c.args.erasures.now (length c.args.locations.now) (length c.args.values.now) (length c.args.mended.now) (Checksum e) code
    (unread-from_lengths text r.hrp.now r.data_part.now code e (rw c.in_ok-reading.ensures at r.is_reading.grammar) refused.0 refused.1)))

pub put_correction-requires : goal.put_correction-requires
put_correction-requires g c =
    let r = c.in_ok-reading.reading in (
      c.args.erasures.now,
      g.Ck.Checksum.code,
      mended_by_nothing c.args.text.now c.args.erasures.now r.hrp.now r.data_part.now g.Ck.Checksum.code (rw c.in_ok-reading.ensures at r.is_reading.grammar)
          (rw c.in_ok-reading.ensures at c.in_ok-validate_lengths.ensures) (c.has_target.ensures.0 c.if-has_target.true),
    )

pub returns-then-has_target-clause-value : goal.returns-then-has_target-clause-value
returns-then-has_target-clause-value g c =
    let r = c.in_ok-reading.reading in
    c.put_correction.ensures.value c.args.erasures.now g.Ck.Checksum.code
    (mended_by_nothing c.args.text.now c.args.erasures.now r.hrp.now r.data_part.now g.Ck.Checksum.code (rw c.in_ok-reading.ensures at r.is_reading.grammar)
    (rw c.in_ok-reading.ensures at c.in_ok-validate_lengths.ensures) (c.has_target.ensures.0 c.if-has_target.true))

pub returns-then-has_target-clause-refused : goal.returns-then-has_target-clause-refused
returns-then-has_target-clause-refused g c =
    let r = c.in_ok-reading.reading in
    c.put_correction.ensures.refused c.args.erasures.now g.Ck.Checksum.code
    (mended_by_nothing c.args.text.now c.args.erasures.now r.hrp.now r.data_part.now g.Ck.Checksum.code (rw c.in_ok-reading.ensures at r.is_reading.grammar)
    (rw c.in_ok-reading.ensures at c.in_ok-validate_lengths.ensures) (c.has_target.ensures.0 c.if-has_target.true))

pub put_correction-requires-in-Found : goal.put_correction-requires-in-Found
put_correction-requires-in-Found g c = (
  c.args.erasures.now,
  g.Ck.Checksum.code,
  mended_by_listing c.args.text.now c.in_ok-reading.reading.text.now c.args.erasures.now c.in-Found.found c.as_slice.result.now g.Ck.Checksum.code g.Ck.Checksum.bound
      c.requires c.in_ok-reading.ensures (sym c.as_slice.ensures.value) (rw c.in-Found.is at c.lookup_listing.ensures),
)

pub returns-in-Found-clause-value : goal.returns-in-Found-clause-value
returns-in-Found-clause-value g c =
    c.put_correction-in-Found.ensures.value c.args.erasures.now g.Ck.Checksum.code
    (mended_by_listing c.args.text.now c.in_ok-reading.reading.text.now c.args.erasures.now c.in-Found.found c.as_slice.result.now g.Ck.Checksum.code g.Ck.Checksum.bound
    c.requires c.in_ok-reading.ensures (sym c.as_slice.ensures.value) (rw c.in-Found.is at c.lookup_listing.ensures))

pub returns-in-Found-clause-refused : goal.returns-in-Found-clause-refused
returns-in-Found-clause-refused g c =
    c.put_correction-in-Found.ensures.refused c.args.erasures.now g.Ck.Checksum.code
    (mended_by_listing c.args.text.now c.in_ok-reading.reading.text.now c.args.erasures.now c.in-Found.found c.as_slice.result.now g.Ck.Checksum.code g.Ck.Checksum.bound
    c.requires c.in_ok-reading.ensures (sym c.as_slice.ensures.value) (rw c.in-Found.is at c.lookup_listing.ensures))

pub returns-in-Absent-clause-refused : goal.returns-in-Absent-clause-refused
returns-in-Absent-clause-refused g c =
    no_listing_there c.args.text.now c.in_ok-reading.reading.text.now c.args.erasures.now g.Ck.Checksum.code g.Ck.Checksum.bound
    c.requires c.in_ok-reading.ensures (rw c.in-Absent.is at c.lookup_listing.ensures)
