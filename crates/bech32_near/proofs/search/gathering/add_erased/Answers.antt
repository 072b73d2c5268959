use Rattle.std.proofs.Common.{rules, length, ap}
use Rattle.bech32_near.proofs.NearestAnswers.{highest_tried, none_tried}
use Rattle.bech32_near.proofs.search.gathering.add_erased.Goals as goal

pub push_highest-requires : goal.push_highest-requires
push_highest-requires g c = search rules

pub returns-in_default : goal.returns-in_default
returns-in_default g c = λ few within out.
    none_tried c.args.corrector.now c.args.others.limit g.Ck.Checksum.code g.Ck.Checksum.bound _ c.args.others.errors c.args.found.now.items out few
    (c.in_ok-listing.ensures within) c.in_default.is

pub returns : goal.returns
returns g c = λ few within out.
    highest_tried c.args.corrector.now c.args.others.limit g.Ck.Checksum.code g.Ck.Checksum.bound _ c.args.others.errors c.in-Some.listing (length c.erasures-erased.result.now) c.args.found.now.items c.push_highest.new.found.items
    out few (c.in_ok-listing.ensures within) c.in-Some.is (ap (λ u. length u) c.erasures-erased.ensures.value) c.in_ok-push_highest.ensures
