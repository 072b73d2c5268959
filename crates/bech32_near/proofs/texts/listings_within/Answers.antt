use Rattle.std.specs.Prelude.{IfOk}
use Rattle.std.proofs.Common.{rules, ◌≡◌, ◌≤◌, [], length, subst, sym, ◌∙◌}
use Rattle.bech32_gf.specs.Fe32.{ops}
use Rattle.bech32_bch.specs.Detection.{DetectsFour}
use Rattle.bech32_checksum.proofs.Target.{length-target}
use Rattle.bech32_near.specs.search.Nearest.{AreNearest}
use Rattle.bech32_lookup.specs.Question.{Question}
use Rattle.bech32_near.proofs.Nearby.{listings-from_outside, listings_returned, one_of}
use Rattle.bech32_near.proofs.OutOfMemory.{memory_returned}
use Rattle.bech32_near.proofs.texts.listings_within.Goals as goal

pub nearest_listings-requires : goal.nearest_listings-requires
nearest_listings-requires g c = (search rules, search rules)

pub returns-in-None-clause-all : goal.returns-in-None-clause-all
returns-in-None-clause-all g c = λ text some is.
    listings-from_outside g.Ck.Checksum.code g.Ck.Checksum.bound c.args.errors text c.args.given.now c.args.corrector.now some is _
    (rw c.in-None.is at c.in_ok-erased.ensures.value) c.new.ensures.items

pub returns-in-Some-clause-all : goal.returns-in-Some-clause-all
returns-in-Some-clause-all g c =
    let given = c.args.given.now in
    let q = c.args.corrector.now in
    let code = g.Ck.Checksum.code in
    let bound = g.Ck.Checksum.bound in
    let errors = c.args.errors in
    let found = rw c.in-Some.is at c.in_ok-erased.ensures.value in
    listings_returned _ code bound errors given q c.nearest_listings.result found.0.0
    (subst (λ (u : Question). IfOk c.nearest_listings.result (λ listings. AreNearest code bound u errors listings.items)) found.1 c.nearest_listings.ensures.all)
    (one_of (DetectsFour ops code.generator q.window) _ given errors c.nearest_listings.result
    (subst (λ (u : Question). IfOk c.nearest_listings.result (λ listings. DetectsFour ops code.generator u.window → u.erasures ≡ [] → errors ≤ 2 → length listings.items ≤ 1)) found.1 c.nearest_listings.ensures.one))

pub returns-in-Some-clause-memory : goal.returns-in-Some-clause-memory
returns-in-Some-clause-memory g c =
    let found = rw c.in-Some.is at c.in_ok-erased.ensures.value in
    let laws = g.met.Ck.Checksum in
    let size = length-target g.Ck.MidstateRepr.PackedFe32.number g.Ck.Checksum.code g.Ck.Checksum.CODE_LENGTH g.Ck.Checksum.CHECKSUM_LENGTH g.Ck.Checksum.GENERATOR_SH g.Ck.Checksum.TARGET_RESIDUE laws.code_law ∙ sym laws.degree_law in
    memory_returned g.Ck.Checksum.code g.Ck.Checksum.bound c.args.errors c.args.given.now size c.args.corrector.now _ c.nearest_listings.result found.0 found.1 c.nearest_listings.ensures.memory
