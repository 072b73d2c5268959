use Rattle.std.proofs.Common.{◌<◌, ℕ, List, length, inl, inr, refl, subst, sym, arith}
use Rattle.std.proofs.lemmas.Result.{err_from_is_err_and}
use Rattle.bech32_gf.specs.declared.gf32.Fe32.{Fe32}
use Rattle.bech32_calls.specs.Correct.{IsCorrectFault, IsMending, PutsMended}
use Rattle.bech32_calls.specs.declared.refusal.Refusal.TheVariants.{Checksum, NoCorrection, NoRoom}
use Rattle.bech32_calls.proofs.Mending.{listed_inside, puts_mended, text_fault_put, unread-from_lengths, unread_put}
use Rattle.bech32_small.proofs.Codes.{bad_number_by, fault_for, so_for}
use Rattle.bech32_small.proofs.Lengths.{refusal-by}
use Rattle.bech32_small.proofs.Numbers.{numbered}
use Rattle.bech32_small.proofs.correct.corrected.Goals as goal

pub returns-in_default-clause-refused : goal.returns-in_default-clause-refused
returns-in_default-clause-refused c =
    bad_number_by c.args.checksum (IsCorrectFault c.args.text.now c.args.erasures.now (length c.args.locations.now) (length c.args.values.now) (length c.args.mended.now))
    (rw c.in_default.is at c.target_of.ensures)

pub returns-in_err-reading-clause-refused : goal.returns-in_err-reading-clause-refused
returns-in_err-reading-clause-refused c =
    let t = rw c.in-Some.is at c.target_of.ensures in
    let IsFault = IsCorrectFault c.args.text.now c.args.erasures.now (length c.args.locations.now) (length c.args.values.now) (length c.args.mended.now) in
    let p = err_from_is_err_and c.from_residual.result c.from_residual.ensures.1 in
    rw p.1 (rw p.2 (fault_for c.args.checksum c.in-Some.target t IsFault _ (numbered _
    (λ e f. text_fault_put c.args.text.now c.args.erasures.now (length c.args.locations.now) (length c.args.values.now) (length c.args.mended.now) e t.code f)
    c.in_err-reading.ensures)))

pub returns-in-Err-clause-refused : goal.returns-in-Err-clause-refused
returns-in-Err-clause-refused c =
    let t = rw c.in-Some.is at c.target_of.ensures in
    let text = c.args.text.now in
    let r = c.in_ok-reading.reading in
    let e = c.in-Err.e in
    let IsFault = IsCorrectFault text c.args.erasures.now (length c.args.locations.now) (length c.args.values.now) (length c.args.mended.now) in
    let found = rw c.in_ok-reading.ensures at c.in-Err.ensures in
    let refused = refusal-by c.in-Some.target t.code t.packs t.length_is (length text) r.hrp.now r.data_part.now e found.0 found.1 in
    fault_for c.args.checksum c.in-Some.target t IsFault c.number.result
    (record {
      refusal = Checksum e;
      holds = unread_put text c.args.erasures.now (length c.args.locations.now) (length c.args.values.now) (length c.args.mended.now) (Checksum e) t.code
          (unread-from_lengths text r.hrp.now r.data_part.now t.code e (rw c.in_ok-reading.ensures at r.is_reading.grammar) refused.0 refused.1);
      number = c.number.ensures.value;
    })

pub listing_of-requires-clause-target : goal.listing_of-requires-clause-target
listing_of-requires-clause-target c = (rw c.in-Some.is at c.target_of.ensures).clear

pub returns-in_default-listing_of-clause-refused : goal.returns-in_default-listing_of-clause-refused
returns-in_default-listing_of-clause-refused c =
    let t = rw c.in-Some.is at c.target_of.ensures in
    let IsFault = IsCorrectFault c.args.text.now c.args.erasures.now (length c.args.locations.now) (length c.args.values.now) (length c.args.mended.now) in
    let none = rw (c.in_default-listing_of.is, c.in_ok-reading.ensures) at c.listing_of.ensures t.code t.packs t.length_is in
    fault_for c.args.checksum c.in-Some.target t IsFault 34 (record { refusal = NoCorrection; holds = none; number = refl })

pub returns-then-count-locations-clause-refused : goal.returns-then-count-locations-clause-refused
returns-then-count-locations-clause-refused c =
    let t = rw c.in-Some.is at c.target_of.ensures in
    let IsFault = IsCorrectFault c.args.text.now c.args.erasures.now (length c.args.locations.now) (length c.args.values.now) (length c.args.mended.now) in
    let mends = rw (c.in-Some-listing_of.is, c.in_ok-reading.ensures) at c.listing_of.ensures t.code t.packs t.length_is in
    let by = subst (λ (l : List (ℕ × Fe32)). IsMending c.args.text.now c.args.erasures.now l t.code) (sym c.as_slice-listing.ensures.value) mends in
    let lack : length c.args.locations.now < length c.as_slice-listing.result.now = omega arith in
    fault_for c.args.checksum c.in-Some.target t IsFault 92
    (record { refusal = NoRoom; holds = record { listing = c.as_slice-listing.result.now; mended_by = by; lacks = inl lack }; number = refl })

pub returns-then-count-values-clause-refused : goal.returns-then-count-values-clause-refused
returns-then-count-values-clause-refused c =
    let t = rw c.in-Some.is at c.target_of.ensures in
    let IsFault = IsCorrectFault c.args.text.now c.args.erasures.now (length c.args.locations.now) (length c.args.values.now) (length c.args.mended.now) in
    let mends = rw (c.in-Some-listing_of.is, c.in_ok-reading.ensures) at c.listing_of.ensures t.code t.packs t.length_is in
    let by = subst (λ (l : List (ℕ × Fe32)). IsMending c.args.text.now c.args.erasures.now l t.code) (sym c.as_slice-listing.ensures.value) mends in
    let lack : length c.args.values.now < length c.as_slice-listing.result.now = omega arith in
    fault_for c.args.checksum c.in-Some.target t IsFault 92
    (record { refusal = NoRoom; holds = record { listing = c.as_slice-listing.result.now; mended_by = by; lacks = inr (inl lack) }; number = refl })

pub returns-then-text-mended-clause-refused : goal.returns-then-text-mended-clause-refused
returns-then-text-mended-clause-refused c =
    let t = rw c.in-Some.is at c.target_of.ensures in
    let IsFault = IsCorrectFault c.args.text.now c.args.erasures.now (length c.args.locations.now) (length c.args.values.now) (length c.args.mended.now) in
    let mends = rw (c.in-Some-listing_of.is, c.in_ok-reading.ensures) at c.listing_of.ensures t.code t.packs t.length_is in
    let by = subst (λ (l : List (ℕ × Fe32)). IsMending c.args.text.now c.args.erasures.now l t.code) (sym c.as_slice-listing.ensures.value) mends in
    let lack : length c.args.mended.now < length c.args.text.now = omega arith in
    fault_for c.args.checksum c.in-Some.target t IsFault 92
    (record { refusal = NoRoom; holds = record { listing = c.as_slice-listing.result.now; mended_by = by; lacks = inr (inr lack) }; number = refl })

pub put_mended-requires-clause-inside : goal.put_mended-requires-clause-inside
put_mended-requires-clause-inside c =
    let t = rw c.in-Some.is at c.target_of.ensures in
    let mends = rw (c.in-Some-listing_of.is, c.in_ok-reading.ensures) at c.listing_of.ensures t.code t.packs t.length_is in
    let by = subst (λ (l : List (ℕ × Fe32)). IsMending c.args.text.now c.args.erasures.now l t.code) (sym c.as_slice-listing.ensures.value) mends in
    listed_inside c.args.text.now c.args.erasures.now c.as_slice-listing.result.now t.code by

pub returns-clause-value : goal.returns-clause-value
returns-clause-value c =
    let t = rw c.in-Some.is at c.target_of.ensures in
    let text = c.args.text.now in
    let given = c.args.erasures.now in
    let listing = c.as_slice-listing.result.now in
    let mends = rw (c.in-Some-listing_of.is, c.in_ok-reading.ensures) at c.listing_of.ensures t.code t.packs t.length_is in
    let by = subst (λ (l : List (ℕ × Fe32)). IsMending text given l t.code) (sym c.as_slice-listing.ensures.value) mends in
    so_for c.args.checksum c.in-Some.target t
    (PutsMended text given c.args.locations.now c.put_listing.new.locations c.args.values.now c.put_listing.new.values (length listing) c.args.mended.now c.put_mended.new.buffer (length text))
    (puts_mended text given c.args.locations.now c.put_listing.new.locations c.args.values.now c.put_listing.new.values (length listing)
    c.args.mended.now c.put_mended.new.buffer (length text) listing t.code
    c.put_listing.ensures.locations c.put_listing.ensures.values c.put_mended.ensures by)
