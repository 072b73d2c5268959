use Rattle.std.specs.Prelude.{set}
use Rattle.std.proofs.Common.{◌≡◌, ◌-◌, ◌*◌, ◌/◌, ◌∙◌, get_or, length, take, ap, arith}
use Rattle.bech32_gf.specs.Fe32 as fe32
use Rattle.bech32_descriptor.specs.Walks.{group_from, word_in}
use Rattle.bech32_descriptor.proofs.Bases.{are_bases}
use Rattle.bech32_descriptor.proofs.places.bases_of.Goals as goal

pub returns-then-n-i : goal.returns-then-n-i
returns-then-n-i c = λ b low. absurd (omega (arith, low))

pub returns : goal.returns
returns c =
    let rows = c.args.rows.now in
    let text = c.args.text.now in
    let i = c.args.i in
    let t = take (length text - 9) text in
    let start = 3 * (i / 3) in
    let power = c.powers_at-power.result.1 in
    let old : c.from_low_bits-old.result ≡ fe32.element (group_from (set t i (get_or t i 0)) start) =
    c.from_low_bits-old.ensures ∙ ap fe32.element c.group_with.ensures in
    let zero : c.from_low_bits-zero.result ≡ fe32.element (group_from (set t i 48) start) =
    c.from_low_bits-zero.ensures ∙ ap fe32.element c.group_with-2.ensures in
    let one : c.from_low_bits-one.result ≡ fe32.element (group_from (set t i 73) start) =
    c.from_low_bits-one.ensures ∙ ap fe32.element c.group_with-3.ensures in
    let two : c.from_low_bits-two.result ≡ fe32.element (group_from (set t i 105) start) =
    c.from_low_bits-two.ensures ∙ ap fe32.element c.group_with-4.ensures in
    λ b low.
    are_bases rows text i power c.requires.long low c.word_at.result c.word_at-2.result c.word_at-3.result c.powers_at-power.ensures.group
    (c.word_at.ensures ∙ ap (word_in rows power) (c.add.ensures ∙ (λ j. fe32.add (zero j) (old j))))
    (c.word_at-2.ensures ∙ ap (word_in rows power) (c.add-2.ensures ∙ (λ j. fe32.add (one j) (old j))))
    (c.word_at-3.ensures ∙ ap (word_in rows power) (c.add-3.ensures ∙ (λ j. fe32.add (two j) (old j))))
    b low
