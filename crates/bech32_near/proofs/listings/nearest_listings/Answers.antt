use Rattle.std.specs.Prelude.{true, false}
use Rattle.std.proofs.Common.{◌≡◌, sym, ◌∙◌}
use Rattle.bech32_near.proofs.NearestAnswers.{all_gathered, one_gathered}
use Rattle.bech32_near.proofs.Within.{memory_returned, never_returned, one_returned}
use Rattle.bech32_near.proofs.listings.nearest_listings.Goals as goal

pub returns-then-is_within-clause-all : goal.returns-then-is_within-clause-all
returns-then-is_within-clause-all g c = c.listings_within.ensures.all (c.is_within.ensures.within.0 c.if-is_within.true)

pub returns-then-is_within-clause-one : goal.returns-then-is_within-clause-one
returns-then-is_within-clause-one g c = one_returned _ _ _ _ c.listings_within.result c.listings_within.ensures.one

pub returns-then-is_within-clause-memory : goal.returns-then-is_within-clause-memory
returns-then-is_within-clause-memory g c = memory_returned _ _ _ c.listings_within.result (c.listings_within.ensures.memory (c.is_within.ensures.within.0 c.if-is_within.true))

pub returns-clause-all : goal.returns-clause-all
returns-clause-all g c =
    all_gathered _ g.Ck.Checksum.code g.Ck.Checksum.bound c.args.corrector.now c.args.errors c.window.result c.window.ensures.value c.gathered.result c.gathered.ensures.lawful c.gathered.ensures.all c.gathered.ensures.none

pub returns-clause-one : goal.returns-clause-one
returns-clause-one g c =
    one_gathered _ g.Ck.Checksum.code g.Ck.Checksum.bound c.args.corrector.now c.args.errors c.window.result c.window.ensures.value c.gathered.result c.gathered.ensures.all

pub returns-clause-memory : goal.returns-clause-memory
returns-clause-memory g c = never_returned _ _ _ c.gathered.result (λ few. let no : true ≡ false = sym (c.is_within.ensures.within.1 few) ∙ c.if-is_within.false in cc no)
