use Rattle.std.specs.Prelude.{bit_xor}
use Rattle.std.proofs.Common.{◌≡◌, ◌<◌, ◌+◌, ◌/◌, ◌∙◌, ℕ, get_or, length, ap, arith}
use Rattle.bech32_gf.specs.Fe32 as fe32
use Rattle.bech32_descriptor.specs.Walks.{word_in}
use Rattle.bech32_descriptor.proofs.Bases.{changed_by}
use Rattle.bech32_descriptor.proofs.places.change_by.Goals as goal

pub returns : goal.returns
returns c =
    let rows = c.args.rows.now in
    let text = c.args.text.now in
    let low : c.args.i + 9 < length text = omega arith in
    let power = c.powers_at-power.result.0 in
    let symbols : c.add-symbols.result ≡ fe32.add (fe32.element c.place-new.result) (fe32.element c.place.result) =
    c.add-symbols.ensures ∙ (λ j. fe32.add (c.from_low_bits.ensures j) (c.from_low_bits-2.ensures j)) in
    ap (λ (n : ℕ). bit_xor n (get_or c.args.bases.now (c.place-new.result / 32) 0)) (c.word_at.ensures ∙ ap (word_in rows power) symbols)
    ∙ changed_by rows text c.args.i power c.requires.long low c.args.bases.now c.args.b c.place-new.result c.place.result
    c.requires.bases c.powers_at-power.ensures.symbol c.place-new.ensures.value c.place.ensures.value
