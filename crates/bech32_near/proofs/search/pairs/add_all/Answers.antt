use Rattle.std.proofs.Common.{◌≡◌, ℕ, min, ap, subst, ◌∙◌, ◌+◌, arith}
use Rattle.bech32_gf.specs.Fe32 as fe32
use Rattle.bech32_gf.specs.laws.Fe32Laws.{is_field}
use Rattle.bech32_near.specs.search.Nearest.{IsEarlier}
use Rattle.bech32_near.specs.search.Sketch.{sketch}
use Rattle.bech32_near.specs.search.Steps.{AreAdded, IsGathered}
use Rattle.bech32_near.proofs.NearestAdded.{first_location, next_location}
use Rattle.bech32_near.proofs.Elements.{lowest}
use Rattle.bech32_near.proofs.search.pairs.add_all.Goals as goal

pub loop-location-init : goal.loop-location-init
loop-location-init g c = λ t within.
    let q = c.args.corrector.now in
    first_location is_field fe32.value lowest fe32.path g.Ck.Checksum.code.generator q.residue q.erasures 2 c.args.found.now.items c.add_errorless.new.found.items
    (c.in_ok-add_errorless.ensures t.few)

pub loop-location-preserved : goal.loop-location-preserved
loop-location-preserved g c = λ t within.
    let q = c.args.corrector.now in
    let whole = c.sketch_of-whole.ensures ∙ ap (sketch c.args.table.now.rows.now (min g.Ck.Checksum.CHECKSUM_LENGTH 12)) c.residue.ensures in
    next_location is_field fe32.value lowest fe32.path g.Ck.Checksum.code.generator q.residue q.erasures c.loop-location.location (c.loop-location.location + 1) 2 1 c.args.found.now.items c.loop-location.found.items c.add_at.new.found.items
    (omega arith) (omega arith) (c.loop-location.invariant t within) (c.in_ok-add_at.ensures t (omega (arith, within)) whole)

pub returns : goal.returns
returns g c = λ t within.
    let q = c.args.corrector.now in
    let end : c.loop-location.location ≡ c.args.limit = omega arith in
    subst (λ (n : ℕ). AreAdded (IsEarlier fe32.ops fe32.value q.erasures) (IsGathered fe32.ops g.Ck.Checksum.code.generator q.residue q.erasures n 2) c.args.found.now.items c.loop-location.found.items) end (c.loop-location.invariant t within)
