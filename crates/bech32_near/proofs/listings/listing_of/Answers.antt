use Rattle.std.proofs.Common.{◌≤◌, ◌<◌, ◌+◌, length, ap, arith}
use Rattle.bech32_near.proofs.Within.{many_within, one_within}
use Rattle.bech32_near.proofs.listings.listing_of.Goals as goal

pub returns-then-saturating_sub-errors-clause-all : goal.returns-then-saturating_sub-errors-clause-all
returns-then-saturating_sub-errors-clause-all g c = λ few.
    let q = c.args.corrector.now in
    let many : length q.erasures + c.args.errors < length c.in-Some.listing = omega (arith, c.if-saturating_sub-errors.true, c.saturating_sub.ensures, c.len.ensures, ap length c.erasures-erased.ensures.value) in
    many_within g.Ck.Checksum.code g.Ck.Checksum.bound q c.args.errors c.erasures-erased.ensures.lawful few _ c.in_ok-listing.ensures.answer c.in-Some.listing c.in-Some.is many

pub returns-clause-all : goal.returns-clause-all
returns-clause-all g c = λ few.
    let q = c.args.corrector.now in
    let small : length c.in-Some.listing ≤ length q.erasures + c.args.errors = omega (arith, c.if-saturating_sub-errors.false, c.saturating_sub.ensures, c.len.ensures, ap length c.erasures-erased.ensures.value) in
    one_within g.Ck.Checksum.code g.Ck.Checksum.bound q c.args.errors c.erasures-erased.ensures.lawful few _ c.in_ok-listing.ensures.answer c.in-Some.listing c.in-Some.is small
