use Rattle.std.specs.Prelude.{◌≢◌, false, bit_xor}
use Rattle.std.proofs.Common.{◌≡◌, ◌<◌, ◌+◌, ℕ, List, min, sym, ap, ◌∙◌, arith}
use Rattle.bech32_gf.specs.Fe32 as fe32
use Rattle.bech32_gf.specs.declared.gf32.Fe32.{Fe32}
use Rattle.bech32_gf.specs.laws.Fe32Laws.{is_field}
use Rattle.bech32_bch.specs.Erasures.{has}
use Rattle.bech32_near.specs.search.Sketch.{five_of, key_of, sketch, sketch_at}
use Rattle.bech32_near.proofs.NearestAdded.{all_values, at_erasure, first_value, next_value}
use Rattle.bech32_near.proofs.NearestAnswers.{among_of, element_not_zero, element_value}
use Rattle.bech32_near.proofs.Elements.{lowest, value_below}
use Rattle.bech32_near.proofs.search.pairs.add_at.Goals as goal

pub returns-then-is_erasure : goal.returns-then-is_erasure
returns-then-is_erasure g c = λ t within is.
    let q = c.args.corrector.now in
    at_erasure is_field fe32.value g.Ck.Checksum.code.generator q.residue q.erasures q.window g.Ck.Checksum.bound c.args.location 1 c.args.found.now.items
    (among_of q.erasures c.args.location (sym c.is_erasure.ensures ∙ c.if-is_erasure.true))

pub loop-value-init : goal.loop-value-init
loop-value-init g c = λ t within is.
    let q = c.args.corrector.now in
    first_value is_field fe32.value lowest fe32.path g.Ck.Checksum.code.generator q.residue q.erasures c.args.location 1 1 c.args.found.now.items (omega arith)

pub loop-value-preserved : goal.loop-value-preserved
loop-value-preserved g c = λ t within is.
    let q = c.args.corrector.now in
    let size : ℕ = min g.Ck.Checksum.CHECKSUM_LENGTH 12 in
    let value : ℕ = c.loop-value.value in
    let low : value < 32 = omega arith in
    let rows = c.args.table.now.rows.now in
    let generator = g.Ck.Checksum.code.generator in
    let outside : has q.erasures c.args.location ≡ false = sym c.is_erasure.ensures ∙ c.if-is_erasure.false in
    let not_zero : c.from_low_bits.result ≢ fe32.zero = λ e. element_not_zero value (omega arith) low (sym c.from_low_bits.ensures ∙ e) in
    let five : c.five_at-five.result ≡ five_of c.args.table.now.columns.now q.window c.args.location = c.five_at-five.ensures q.window t.table.columns_are.long within in
    let key : c.key_of.result ≡ sketch_at rows size generator c.args.location c.from_low_bits.result =
    c.key_of.ensures ∙ ap (λ (u : List ℕ). key_of u value) five
    ∙ ap (λ n. key_of (five_of c.args.table.now.columns.now q.window c.args.location) n) (sym (element_value value low))
    ∙ t.table.columns_are.keys c.args.location within (fe32.element value)
    ∙ ap (λ (v : Fe32). sketch_at rows size generator c.args.location v) (sym c.from_low_bits.ensures) in
    let left : bit_xor c.args.whole c.key_of.result ≡ bit_xor (sketch rows size q.residue) (sketch_at rows size generator c.args.location c.from_low_bits.result) =
    ap (λ n. bit_xor n c.key_of.result) is ∙ ap (bit_xor (sketch rows size q.residue)) key in
    next_value is_field fe32.value lowest fe32.path generator q.residue q.erasures c.args.location 1 value (value + 1) c.from_low_bits.result c.args.found.now.items c.loop-value.found.items c.try_with.new.found.items
    (omega arith) (ap fe32.value c.from_low_bits.ensures ∙ element_value value low) (c.loop-value.invariant t within is) (c.in_ok-try_with.ensures t (record { within = within; outside = outside; not_zero = not_zero }) left)

pub returns : goal.returns
returns g c = λ t within is.
    let q = c.args.corrector.now in
    all_values is_field fe32.value lowest fe32.path g.Ck.Checksum.code.generator q.residue q.erasures c.args.location 1 c.loop-value.value c.args.found.now.items c.loop-value.found.items
    (λ v. omega (arith, value_below v)) (c.loop-value.invariant t within is)
