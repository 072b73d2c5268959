use Rattle.std.proofs.Common.{rules}
use Rattle.bech32_correction.proofs.Outcomes.{listed, none_listed}
use Rattle.bech32_correction.proofs.correcting.listing_by.Goals as goal

pub listing-requires : goal.listing-requires
listing-requires g c = search rules

pub returns-in-Some-clause-value : goal.returns-in-Some-clause-value
returns-in-Some-clause-value g c = λ text is.
    listed g.Ck.Checksum.code g.Ck.Checksum.bound text c.args.erasures.now c.args.corrector c.in-Some.listing is (rw c.in-Some.is at c.in_ok-listing.ensures.answer)

pub returns-in-None-clause-value : goal.returns-in-None-clause-value
returns-in-None-clause-value g c = λ text is.
    (none_listed g.Ck.Checksum.code g.Ck.Checksum.bound text c.args.erasures.now c.args.corrector is (rw c.in-None.is at c.in_ok-listing.ensures.answer), is)
