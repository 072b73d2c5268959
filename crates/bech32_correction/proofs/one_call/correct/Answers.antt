use Rattle.std.specs.Prelude.{string_bytes}
use Rattle.std.proofs.Common.{rules, ℕ, List, subst, sym}
use Rattle.std.proofs.lemmas.Result.{err_from_is_err_and}
use Rattle.bech32_gf.specs.declared.gf32.Fe32.{Fe32}
use Rattle.bech32_correction.specs.Mistyped.{IsListingOf, IsMendedBy}
use Rattle.bech32_correction.proofs.MendedText.{mended_by, placed-from_listing}
use Rattle.bech32_correction.proofs.one_call.correct.Goals as goal

pub mended_by-requires : goal.mended_by-requires
mended_by-requires g c =
    let code = g.Ck.Checksum.code in
    let text = c.args.text.now in
    let given = c.args.erasures.now in
    let is : IsListingOf code g.Ck.Checksum.bound text given c.in-Mended.listing = rw c.in-Mended.is at c.in_ok-listing_of_text.ensures.value in
    (search rules, placed-from_listing code g.Ck.Checksum.bound text given c.in-Mended.listing is)

pub returns-in-Accepted-clause-value : goal.returns-in-Accepted-clause-value
returns-in-Accepted-clause-value g c = rw c.in-Accepted.is at c.in_ok-listing_of_text.ensures.value

pub returns-in_err-mended_by-in-Mended-clause-value : goal.returns-in_err-mended_by-in-Mended-clause-value
returns-in_err-mended_by-in-Mended-clause-value g c =
    let is : IsListingOf g.Ck.Checksum.code g.Ck.Checksum.bound c.args.text.now c.args.erasures.now c.in-Mended.listing = rw c.in-Mended.is at c.in_ok-listing_of_text.ensures.value in
    let p = err_from_is_err_and c.from_residual-in_err-mended_by-in-Mended.result c.from_residual-in_err-mended_by-in-Mended.ensures.1 in
    rw p.1 (rw p.2 (is.hrp, is.data_part, is.residue, is.refused))

pub returns-in_ok-mended_by-in-Mended-clause-value : goal.returns-in_ok-mended_by-in-Mended-clause-value
returns-in_ok-mended_by-in-Mended-clause-value g c =
    let code = g.Ck.Checksum.code in
    let bound = g.Ck.Checksum.bound in
    let text = c.args.text.now in
    let given = c.args.erasures.now in
    let is : IsListingOf code bound text given c.in-Mended.listing = rw c.in-Mended.is at c.in_ok-listing_of_text.ensures.value in
    let made = c.in_ok-mended_by-in-Mended.ensures in
    let new = string_bytes c.in_ok-mended_by-in-Mended.field-0.text in
    subst (λ (l : List (ℕ × Fe32)). IsMendedBy code bound text given l new) (sym made.same)
    (mended_by code bound text given new c.in-Mended.listing is made.spelling)

pub returns-in-Unexplained-clause-value : goal.returns-in-Unexplained-clause-value
returns-in-Unexplained-clause-value g c = rw c.in-Unexplained.is at c.in_ok-listing_of_text.ensures.value

pub returns-in_err-mended_by-in-Mended-clause-in_place : goal.returns-in_err-mended_by-in-Mended-clause-in_place
returns-in_err-mended_by-in-Mended-clause-in_place g c = λ _ _.
    let is : IsListingOf g.Ck.Checksum.code g.Ck.Checksum.bound c.args.text.now c.args.erasures.now c.in-Mended.listing = rw c.in-Mended.is at c.in_ok-listing_of_text.ensures.value in
    (c.in-Mended.listing, is)
