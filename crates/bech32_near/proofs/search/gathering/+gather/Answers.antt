use Rattle.std.specs.Prelude.{◌≢◌, false}
use Rattle.std.proofs.Common.{rules, ◌≡◌, ◌≤◌, ◌<◌, ◌+◌, ◌*◌, ℕ, length, sym, ap, subst, ◌∙◌, arith}
use Rattle.bech32_gf.specs.Fe32 as fe32
use Rattle.bech32_gf.specs.laws.Fe32Laws.{is_field}
use Rattle.bech32_bch.specs.Erasures.{has}
use Rattle.bech32_near.specs.search.Nearest.{IsEarlier}
use Rattle.bech32_near.specs.search.Steps.{AreAdded, IsGathered}
use Rattle.bech32_near.proofs.NearestAdded.{all_values, at_erasure, first_location, first_value, next_location, next_value}
use Rattle.bech32_near.proofs.NearestAnswers.{among_of, element_not_zero, element_value, of_ok, put_back, some_errors}
use Rattle.bech32_near.proofs.Elements.{lowest, value_below}
use Rattle.bech32_near.proofs.search.gathering.+gather.Goals as goal

pub gather-returns-then-are_few : goal.gather-returns-then-are_few
gather-returns-then-are_few g t c = λ few within. c.add_answer.ensures (omega (arith, c.are_few.ensures.few.0 c.if-are_few.true)) within

pub gather-returns-in_default : goal.gather-returns-in_default
gather-returns-in_default g t c = λ few within.
    let some : 0 < c.args.few.errors = some_errors c.args.few.errors (length c.args.corrector.now.erasures) g.Ck.Checksum.bound c.are_few.result c.are_few.ensures.few c.if-are_few.false few in
    absurd (c.in_default.ensures some)

pub gather-loop-location-init : goal.gather-loop-location-init
gather-loop-location-init g t c = λ few within.
    let q = c.args.corrector.now in
    first_location is_field fe32.value lowest fe32.path g.Ck.Checksum.code.generator q.residue q.erasures c.args.few.errors c.args.found.now.items c.add_errorless.new.found.items
    (c.in_ok-add_errorless.ensures few)

pub gather-loop-location-preserved : goal.gather-loop-location-preserved
gather-loop-location-preserved g t c = λ few within.
    let q = c.args.corrector.now in
    next_location is_field fe32.value lowest fe32.path g.Ck.Checksum.code.generator q.residue q.erasures c.loop-location.location (c.loop-location.location + 1) c.args.few.errors c.in-Some.others c.args.found.now.items c.loop-location.found.items c.gather_at.new.found.items
    (omega arith) (omega (arith, c.in-Some.ensures.0, c.in-Some.ensures.1)) (c.loop-location.invariant few within) (c.in_ok-gather_at.ensures few (omega (arith, within)))

pub gather-returns : goal.gather-returns
gather-returns g t c = λ few within.
    let q = c.args.corrector.now in
    let end : c.loop-location.location ≡ c.args.few.limit = omega arith in
    subst (λ (n : ℕ). AreAdded (IsEarlier fe32.ops fe32.value q.erasures) (IsGathered fe32.ops g.Ck.Checksum.code.generator q.residue q.erasures n c.args.few.errors) c.args.found.now.items c.loop-location.found.items) end (c.loop-location.invariant few within)

pub gather_at-returns-then-is_erasure : goal.gather_at-returns-then-is_erasure
gather_at-returns-then-is_erasure g t c = λ few within.
    let q = c.args.corrector.now in
    at_erasure is_field fe32.value g.Ck.Checksum.code.generator q.residue q.erasures q.window g.Ck.Checksum.bound c.args.location c.args.others c.args.found.now.items
    (among_of q.erasures c.args.location (sym c.is_erasure.ensures ∙ c.if-is_erasure.true))

pub gather_at-returns-then-are_few : goal.gather_at-returns-then-are_few
gather_at-returns-then-are_few g t c = λ few within. c.add_erased.ensures (c.are_few.ensures.few.0 c.if-are_few.true) within (sym c.is_erasure.ensures ∙ c.if-is_erasure.false)

pub gather_at-loop-value-init : goal.gather_at-loop-value-init
gather_at-loop-value-init g t c = λ few within.
    let q = c.args.corrector.now in
    first_value is_field fe32.value lowest fe32.path g.Ck.Checksum.code.generator q.residue q.erasures c.args.location c.args.others 1 c.args.found.now.items (omega arith)

pub gather_at-loop-value-preserved : goal.gather_at-loop-value-preserved
gather_at-loop-value-preserved g t c = λ few within.
    let q = c.args.corrector.now in
    let outside : has q.erasures c.args.location ≡ false = sym c.is_erasure.ensures ∙ c.if-is_erasure.false in
    let not_zero : c.from_low_bits.result ≢ fe32.zero = λ e. element_not_zero c.loop-value.value (omega arith) (omega arith) (sym c.from_low_bits.ensures ∙ e) in
    next_value is_field fe32.value lowest fe32.path g.Ck.Checksum.code.generator q.residue q.erasures c.args.location c.args.others c.loop-value.value (c.loop-value.value + 1) c.from_low_bits.result c.args.found.now.items c.loop-value.found.items c.gather_with.new.found.items
    (omega arith) (ap fe32.value c.from_low_bits.ensures ∙ element_value c.loop-value.value (omega arith)) (c.loop-value.invariant few within) (c.in_ok-gather_with.ensures few within outside not_zero)

pub gather_at-returns : goal.gather_at-returns
gather_at-returns g t c = λ few within.
    let q = c.args.corrector.now in
    all_values is_field fe32.value lowest fe32.path g.Ck.Checksum.code.generator q.residue q.erasures c.args.location c.args.others c.loop-value.value c.args.found.now.items c.loop-value.found.items
    (λ v. omega (arith, value_below v)) (c.loop-value.invariant few within)

pub gather_with-returns : goal.gather_with-returns
gather_with-returns g t c = λ few within outside not_zero.
    let q = c.args.corrector.now in
    let left = c.in_ok-left.left in
    let small : length left.erasures ≤ g.Ck.Checksum.bound = omega (arith, ap (λ u. length u) c.in_ok-left.ensures.erasures, few) in
    let below : c.args.error.0 ≤ left.window = omega (arith, c.in_ok-left.ensures.window, within) in
    put_back g.Ck.Checksum.code.generator q.residue left.residue q.erasures left.erasures c.args.error c.args.others c.new-lower.result.items c.gather-gathered.new.found.items c.in_ok-left.ensures.erasures c.new-lower.ensures.items
    (of_ok c.gather-gathered.result (c.gather-gathered.ensures small below) c.in_ok-push_with.ensures.was)
    c.args.found.now.items c.push_with.new.found.items c.in_ok-left.ensures.residue outside not_zero c.in_ok-push_with.ensures.raised

-- what the calls require
pub gather-gather_at-requires : goal.gather-gather_at-requires
gather-gather_at-requires g t c =
    let less : 3 * c.in-Some.others + 2 < 3 * c.args.few.errors = omega (arith, c.in-Some.ensures.0, c.in-Some.ensures.1) in
    search rules

pub gather_at-gather_with-requires : goal.gather_at-gather_with-requires
gather_at-gather_with-requires g t c =
    let less : 3 * c.args.others + 1 < 3 * c.args.others + 2 = omega arith in
    search rules

pub gather_with-gather-gathered-requires : goal.gather_with-gather-gathered-requires
gather_with-gather-gathered-requires g t c =
    let less : 3 * c.args.others < 3 * c.args.others + 1 = omega arith in
    search rules

pub gather-add_answer-requires : goal.gather-add_answer-requires
gather-add_answer-requires g t c = search rules

pub gather-add_errorless-requires : goal.gather-add_errorless-requires
gather-add_errorless-requires g t c = (search rules, search rules)

pub gather_at-add_erased-requires : goal.gather_at-add_erased-requires
gather_at-add_erased-requires g t c = (search rules, search rules)

pub gather_with-push_with-requires : goal.gather_with-push_with-requires
gather_with-push_with-requires g t c = (search rules, search rules)
