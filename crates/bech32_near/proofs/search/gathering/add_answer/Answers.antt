use Rattle.std.specs.Prelude.{true, false}
use Rattle.std.proofs.Common.{rules, ◌≡◌, ◌≤◌, ℕ, List, drop, length, sym, ap, subst, ◌∙◌, arith}
use Rattle.bech32_gf.specs.Fe32 as fe32
use Rattle.bech32_gf.specs.declared.gf32.Fe32.{Fe32}
use Rattle.bech32_gf.specs.laws.Fe32Laws.{is_field}
use Rattle.bech32_near.proofs.NearestAdded.{AreWithin, alone_none, alone_not, alone_one, erasures_first}
use Rattle.bech32_near.proofs.NearestAnswers.{answer_of}
use Rattle.bech32_near.proofs.search.gathering.add_answer.Goals as goal

pub own_listing-requires : goal.own_listing-requires
own_listing-requires g c = search rules

pub as_slice-requires : goal.as_slice-requires
as_slice-requires g c = search rules

pub push_listing-requires : goal.push_listing-requires
push_listing-requires g c = search rules

pub returns-in_default : goal.returns-in_default
returns-in_default g c = λ few within.
    let q = c.args.corrector.now in
    alone_none is_field fe32.value g.Ck.Checksum.code.generator q.residue q.erasures q.window g.Ck.Checksum.bound _ c.args.few.limit c.args.few.errors c.args.found.now.items
    (answer_of fe32.value q.erasures g.Ck.Checksum.code g.Ck.Checksum.bound q _ c.erasures-erased.ensures.lawful c.in_ok-listing.ensures.answer)
    few within c.in_default.is

pub split_at-requires : goal.split_at-requires
split_at-requires g c =
    let q = c.args.corrector.now in
    let long : length q.erasures ≤ length c.in-Some.listing =
    erasures_first is_field fe32.value g.Ck.Checksum.code.generator q.residue q.erasures q.window g.Ck.Checksum.bound q.erasures _ c.in-Some.listing
    (answer_of fe32.value q.erasures g.Ck.Checksum.code g.Ck.Checksum.bound q _ c.erasures-erased.ensures.lawful c.in_ok-listing.ensures.answer) c.in-Some.is in
    omega (arith, long, ap (λ u. length u) c.erasures-erased.ensures.value, ap (λ u. length u) c.as_slice.ensures)

pub returns-then-not-are_within : goal.returns-then-not-are_within
returns-then-not-are_within g c = λ few within.
    let q = c.args.corrector.now in
    let same : c.split_at.result.1.now ≡ drop (length q.erasures) c.in-Some.listing =
    c.split_at.ensures.back ∙ ap (drop (length c.erasures-erased.result.now)) c.as_slice.ensures ∙ ap (λ u. drop (length u) c.in-Some.listing) c.erasures-erased.ensures.value in
    alone_not is_field fe32.value g.Ck.Checksum.code.generator q.residue q.erasures q.window g.Ck.Checksum.bound _ c.args.few.limit c.args.few.errors c.args.found.now.items c.in-Some.listing
    (answer_of fe32.value q.erasures g.Ck.Checksum.code g.Ck.Checksum.bound q _ c.erasures-erased.ensures.lawful c.in_ok-listing.ensures.answer)
    few within c.in-Some.is
    (λ k. let no : false ≡ true = sym c.if-not-are_within.true ∙ c.are_within.ensures.1 (subst (λ (u : List (ℕ × Fe32)). AreWithin c.args.few.limit c.args.few.errors u) (sym same) k) in cc no)

pub returns : goal.returns
returns g c = λ few within.
    let q = c.args.corrector.now in
    let same : c.split_at.result.1.now ≡ drop (length q.erasures) c.in-Some.listing =
    c.split_at.ensures.back ∙ ap (drop (length c.erasures-erased.result.now)) c.as_slice.ensures ∙ ap (λ u. drop (length u) c.in-Some.listing) c.erasures-erased.ensures.value in
    alone_one is_field fe32.value g.Ck.Checksum.code.generator q.residue q.erasures q.window g.Ck.Checksum.bound _ c.args.few.limit c.args.few.errors c.args.found.now.items c.push_listing.new.found.items c.in-Some.listing
    (answer_of fe32.value q.erasures g.Ck.Checksum.code g.Ck.Checksum.bound q _ c.erasures-erased.ensures.lawful c.in_ok-listing.ensures.answer)
    few within c.in-Some.is
    (subst (λ (u : List (ℕ × Fe32)). AreWithin c.args.few.limit c.args.few.errors u) same (c.are_within.ensures.0 c.if-not-are_within.false))
    c.in_ok-push_listing.ensures
